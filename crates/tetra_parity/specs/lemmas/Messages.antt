-- Messages, their parity and their marks.
use Rattle.std.proofs.Common.{◌≡◌, ◌+◌, Bool, true, false, List, [], ◌∷◌, ◌++◌, length, take, drop, cond, arith, refl, ap, ◌∙◌}
use Rattle.std.proofs.Math.Seq.{take-append_seam, drop-append_seam}
use Rattle.std.proofs.lemmas.List.{length-append}
use Rattle.tetra_bits.specs.declared.reading.Mark.TheVariants.{Good, Bad}
use Rattle.tetra_bits.specs.lemmas.Digits.{length-digits}
use Rattle.tetra_parity.specs.Marks.{mark_by, mark_of, IsMarked, MarksAreRight, good_mark, BlocksAreGood}
use Rattle.tetra_parity.specs.Parity.{block_rest, generator4, generator7, parity_bits4, seven_bits, parity_bits8, parity16, parity_bits16, sum_of, width, parity_bits, with_parity, block_size, Holds, same_bits, holds_of, ParityHolds, TestsParity}
use Rattle.tetra_parity.specs.declared.kind.Parity.{Parity}
use Rattle.tetra_parity.specs.declared.kind.Parity.TheVariants.{Nothing, Four, Eight, Sixteen}

length-parity_bits8 : (block : List Bool) → length (parity_bits8 block) ≡ 8
unfolding parity_bits8 seven_bits
length-parity_bits8 block =
    length-append (seven_bits block) (sum_of (block ++ seven_bits block) ∷ []) ∙ ap (λ n. n + 1) (length-digits 7 (block_rest 7 generator7 block))

pub length-parity_bits : (parity : Parity) (block : List Bool) → length (parity_bits parity block) ≡ width parity
unfolding parity_bits parity_bits4 parity_bits16
length-parity_bits Nothing block = refl
length-parity_bits Four block = length-digits 4 (block_rest 4 generator4 block)
length-parity_bits Eight block = length-parity_bits8 block
length-parity_bits Sixteen block = length-digits 16 (parity16 block)

pub length-with_parity : (parity : Parity) (block : List Bool) → length (with_parity parity block) ≡ length block + width parity
unfolding with_parity
length-with_parity parity block = length-append block (parity_bits parity block) ∙ ap (λ n. length block + n) (length-parity_bits parity block)

block_size-with_parity : (parity : Parity) (block : List Bool) → block_size parity (with_parity parity block) ≡ length block
unfolding block_size
block_size-with_parity parity block = omega (arith, length-with_parity parity block)

-- the block comes back
pub take-with_parity : (parity : Parity) (block : List Bool) → take (length block) (with_parity parity block) ≡ block
unfolding with_parity
take-with_parity parity block = take-append_seam block (parity_bits parity block)

drop-with_parity : (parity : Parity) (block : List Bool) → drop (length block) (with_parity parity block) ≡ parity_bits parity block
unfolding with_parity
drop-with_parity parity block = drop-append_seam block (parity_bits parity block)

pub parity_holds : ParityHolds
unfolding Holds
parity_holds parity block = rw (block_size-with_parity parity block, drop-with_parity parity block, take-with_parity parity block) refl

same_bits-self : (xs : List Bool) → same_bits xs xs ≡ true
unfolding same_bits
same_bits-self [] = refl
same_bits-self (true ∷ xs) = same_bits-self xs
same_bits-self (false ∷ xs) = same_bits-self xs

same_from_bits : (xs ys : List Bool) → same_bits xs ys ≡ true → xs ≡ ys
unfolding same_bits
same_from_bits [] [] h = refl
same_from_bits [] (y ∷ ys) h = cc
same_from_bits (x ∷ xs) [] h = cc
same_from_bits (true ∷ xs) (true ∷ ys) h = ap (λ l. true ∷ l) (same_from_bits xs ys h)
same_from_bits (true ∷ xs) (false ∷ ys) h = cc
same_from_bits (false ∷ xs) (true ∷ ys) h = cc
same_from_bits (false ∷ xs) (false ∷ ys) h = ap (λ l. false ∷ l) (same_from_bits xs ys h)

pub tests_parity : TestsParity
unfolding Holds holds_of
tests_parity parity message =
    let size = block_size parity message in
    (same_from_bits (drop size message) (parity_bits parity (take size message)), λ h. rw h (same_bits-self (parity_bits parity (take size message))))

-- a mark by a test
marked_by : (parity : Parity) (message : List Bool) (holds : Bool) → holds_of parity message ≡ holds → (parity ≡ Nothing → ⊥)
    → mark_by parity holds ≡ cond holds Good Bad → IsMarked parity (cond holds Good Bad) message
marked_by parity message true e some m =
    let held : Holds parity message = (tests_parity parity message).0 e in
    record { good = (λ g. (some, held), λ h. refl); bad = (λ g. absurd (cc), λ h. absurd (h.1 held)); unchecked = (λ g. absurd (cc), λ h. absurd (some h)); here = λ g. cc }
marked_by parity message false e some m =
    let fails : Holds parity message → ⊥ = λ h. let t = (tests_parity parity message).1 h in cc in
    record { good = (λ g. absurd (cc), λ h. absurd (fails h.1)); bad = (λ g. (some, fails), λ h. refl); unchecked = (λ g. absurd (cc), λ h. absurd (some h)); here = λ g. cc }

pub marks_are_right : MarksAreRight
unfolding mark_of mark_by
marks_are_right Nothing message =
    record { good = (λ m. absurd (cc), λ h. absurd (h.0 refl)); bad = (λ m. absurd (cc), λ h. absurd (h.0 refl)); unchecked = (λ m. refl, λ h. refl); here = λ m. cc }
marks_are_right Four message = marked_by Four message (holds_of Four message) refl (λ e. cc) refl
marks_are_right Eight message = marked_by Eight message (holds_of Eight message) refl (λ e. cc) refl
marks_are_right Sixteen message = marked_by Sixteen message (holds_of Sixteen message) refl (λ e. cc) refl

pub holds_of-with_parity : (parity : Parity) (block : List Bool) → holds_of parity (with_parity parity block) ≡ true
holds_of-with_parity parity block = (tests_parity parity (with_parity parity block)).1 (parity_holds parity block)

pub blocks_are_good : BlocksAreGood
unfolding mark_of mark_by good_mark
blocks_are_good Nothing block = refl
blocks_are_good Four block = rw (holds_of-with_parity Four block) refl
blocks_are_good Eight block = rw (holds_of-with_parity Eight block) refl
blocks_are_good Sixteen block = rw (holds_of-with_parity Sixteen block) refl
