-- Lists that alternate, and their strands.
use Rattle.std.proofs.Common.{ℕ, ◌+◌, ◌-◌, ◌*◌, ◌/◌, ◌%◌, ◌<◌, ◌≡◌, inl, inr, Bool, false, List, length, arith, refl, ap, sym, ◌∙◌}
use Rattle.std.proofs.lemmas.Bool.{cases_eq, eq-eqb, ne_eqb}
use Rattle.std.proofs.lemmas.List.{ext_get_or}
use Rattle.tetra_bits.specs.Numbered.{length-numbered, get_or-numbered}
use Rattle.tetra_bits.specs.Order.{bit_at}
use Rattle.tetra_speech.specs.Frames.{alternate, alternated, strand}

-- an entry of two lists alternating, counted from 0
pub alternate_even : (a b : List Bool) (i : ℕ) → i % 2 ≡ 0 → bit_at a (i / 2) ≡ alternate a b (i + 1)
unfolding alternate
alternate_even a b i even =
    let back : i + 1 - 1 ≡ i = omega arith in
    rw (back, eq-eqb (i % 2) 0 even) refl

pub alternate_odd : (a b : List Bool) (i : ℕ) → (i % 2 ≡ 0 → ⊥) → bit_at b (i / 2) ≡ alternate a b (i + 1)
unfolding alternate
alternate_odd a b i odd =
    let back : i + 1 - 1 ≡ i = omega arith in
    rw (back, ne_eqb (i % 2) 0 odd) refl

pub length-alternated : (a b : List Bool) → length (alternated a b) ≡ 2 * length a
unfolding alternated
length-alternated a b = length-numbered (alternate a b) (2 * length a)

pub length-strand : (from : ℕ) (both : List Bool) → length (strand from both) ≡ length both / 2
unfolding strand
length-strand from both = length-numbered (λ k. bit_at both (2 * (k - 1) + from)) (length both / 2)

-- an entry of two lists alternating
alternated_bit : (a b : List Bool) (k : ℕ) → k < 2 * length a → bit_at (alternated a b) k ≡ alternate a b (k + 1)
unfolding alternated
alternated_bit a b k h = get_or-numbered (alternate a b) (2 * length a) k false h

pub even_bit : (a b : List Bool) (k : ℕ) → k < length a → bit_at (alternated a b) (2 * k) ≡ bit_at a k
even_bit a b k h =
    let half : 2 * k / 2 ≡ k = omega arith in
    alternated_bit a b (2 * k) (omega (arith, h)) ∙ sym (alternate_even a b (2 * k) (omega arith)) ∙ ap (bit_at a) half

pub odd_bit : (a b : List Bool) (k : ℕ) → k < length a → bit_at (alternated a b) (2 * k + 1) ≡ bit_at b k
odd_bit a b k h =
    let half : (2 * k + 1) / 2 ≡ k = omega arith in
    alternated_bit a b (2 * k + 1) (omega (arith, h))
    ∙ sym (alternate_odd a b (2 * k + 1) (λ e. absurd (omega (arith, e)))) ∙ ap (bit_at b) half

-- an entry of a strand
pub strand_bit : (from : ℕ) (both : List Bool) (k : ℕ) → k < length both / 2 → bit_at (strand from both) k ≡ bit_at both (2 * k + from)
unfolding strand
strand_bit from both k h =
    let back : 2 * (k + 1 - 1) + from ≡ 2 * k + from = omega arith in
    get_or-numbered (λ j. bit_at both (2 * (j - 1) + from)) (length both / 2) k false h ∙ ap (bit_at both) back

-- the strands of two lists alternating are the lists
pub strand_0 : (a b : List Bool) → strand 0 (alternated a b) ≡ a
strand_0 a b =
    let l : length (strand 0 (alternated a b)) ≡ length a = length-strand 0 (alternated a b) ∙ omega (arith, length-alternated a b) in
    ext_get_or false (strand 0 (alternated a b)) a l (λ k h.
    let none : 2 * k + 0 ≡ 2 * k = omega arith in
    let half : 2 * k / 2 ≡ k = omega arith in
    strand_bit 0 (alternated a b) k (omega (arith, h, length-strand 0 (alternated a b)))
    ∙ ap (bit_at (alternated a b)) none
    ∙ alternated_bit a b (2 * k) (omega (arith, h, l))
    ∙ sym (alternate_even a b (2 * k) (omega arith)) ∙ ap (bit_at a) half)

pub strand_1 : (a b : List Bool) → length a ≡ length b → strand 1 (alternated a b) ≡ b
strand_1 a b same =
    let l : length (strand 1 (alternated a b)) ≡ length b = length-strand 1 (alternated a b) ∙ omega (arith, length-alternated a b, same) in
    ext_get_or false (strand 1 (alternated a b)) b l (λ k h.
    let half : (2 * k + 1) / 2 ≡ k = omega arith in
    strand_bit 1 (alternated a b) k (omega (arith, h, length-strand 1 (alternated a b)))
    ∙ alternated_bit a b (2 * k + 1) (omega (arith, h, l, same))
    ∙ sym (alternate_odd a b (2 * k + 1) (λ e. absurd (omega (arith, e)))) ∙ ap (bit_at b) half)

-- the two strands of an even number of bits alternate in these bits
pub strands_alternate : (x : List Bool) → 2 * (length x / 2) ≡ length x → alternated (strand 0 x) (strand 1 x) ≡ x
strands_alternate x even =
    let l : length (alternated (strand 0 x) (strand 1 x)) ≡ length x = length-alternated (strand 0 x) (strand 1 x) ∙ omega (arith, length-strand 0 x, even) in
    ext_get_or false (alternated (strand 0 x) (strand 1 x)) x l (λ k h.
    alternated_bit (strand 0 x) (strand 1 x) k (omega (arith, h, l, length-strand 0 x, even)) ∙ elim (cases_eq (k % 2) 0) [
      | inl e ↦
          let whole : 2 * (k / 2) + 0 ≡ k = omega (arith, e) in
          sym (alternate_even (strand 0 x) (strand 1 x) k e) ∙ strand_bit 0 x (k / 2) (omega (arith, h, l, even)) ∙ ap (bit_at x) whole
      | inr o ↦
          let whole : 2 * (k / 2) + 1 ≡ k = omega (arith, o) in
          sym (alternate_odd (strand 0 x) (strand 1 x) k o) ∙ strand_bit 1 x (k / 2) (omega (arith, h, l, even)) ∙ ap (bit_at x) whole
    ])
