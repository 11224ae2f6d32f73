-- Drawing word by word and bit by bit.
use Prim.Native.Nat.{zero, suc}
use Rattle.std.proofs.Common.{◌≡◌, ℕ, ◌+◌, ◌-◌, ◌*◌, ◌/◌, ◌%◌, ◌^◌, ◌<◌, ◌≤◌, Bool, List, [], ◌∷◌, ◌++◌, length, false, nat_eq, bit_xor, refl, ap, ◌∙◌, arith, add-one, add-zero, mod-lt, pow_pos}
use Rattle.std.proofs.lemmas.Nat.{or_lt, shr_le, shr-shr}
use Rattle.rand_pcg.specs.Lcg.{Lcg, next, next_state, state_after, started, increment_of}
use Rattle.rand_pcg.specs.Pcg.{multiplier_64, pcg32}
use Rattle.tetra_bits.specs.Numbered.{numbered, numbered_push, length-numbered, numbered_same}
use Rattle.tetra_bits.specs.Digits.{digit, digits}
use Rattle.tetra_gen.specs.Words.{generator, word, field_bit, field, leading, AccessIsField}

-- the last of n + 1 steps
state_last : (w m p n s : ℕ) → next_state w m p (state_after w m p n s) ≡ state_after w m p (suc n) s
unfolding state_after
state_last w m p zero s = refl
state_last w m p (suc n) s = state_last w m p n (next_state w m p s)

pub generator_none : (draw stream : ℕ) → started 64 multiplier_64 draw (increment_of 64 stream) ≡ generator draw stream 0
unfolding generator state_after
generator_none draw stream = refl

pub generator_more : (draw stream n : ℕ) → next 64 multiplier_64 (generator draw stream n) ≡ generator draw stream (n + 1)
unfolding generator
generator_more draw stream n =
    let start = started 64 multiplier_64 draw (increment_of 64 stream) in
    rw add-one (ap (λ (s : ℕ). record { state = s; increment = start.increment }) (state_last 64 multiplier_64 start.increment n start.state))

-- a word is below 2^32
pub word_small : (draw stream i : ℕ) → word draw stream i < 2 ^ 32
unfolding word
word_small draw stream i =
    let state = (generator draw stream i).state in
    let n = bit_xor (state / 2 ^ 18) state / 2 ^ 27 % 2 ^ 32 in
    let by = state / 2 ^ 59 % 32 in
    let small : n < 2 ^ 32 = mod-lt _ (pow_pos 32) in
    or_lt 32 (n / 2 ^ by) (n * 2 ^ ((32 - by) % 32) % 2 ^ 32) (omega (arith, shr_le n by, small)) (mod-lt _ (pow_pos 32))

-- a word that is drawn
pub drawn_word : (draw stream i w : ℕ) (before after : Lcg) → (w, after) ≡ pcg32 before → before ≡ generator draw stream i → w ≡ word draw stream i
unfolding word
drawn_word draw stream i w before after step from = ap (λ (p : ℕ × Lcg). p.0) step ∙ ap (λ g. (pcg32 g).0) from

pub drawn_after : (draw stream i w : ℕ) (before after : Lcg) → (w, after) ≡ pcg32 before → before ≡ generator draw stream i → after ≡ generator draw stream (i + 1)
drawn_after draw stream i w before after step from =
    ap (λ (p : ℕ × Lcg). p.1) step ∙ ap (next 64 multiplier_64) from ∙ generator_more draw stream i

-- a field of one bit more
pub field_more : (words : ℕ → ℕ) (i k w : ℕ) (old new : List Bool) (bit : Bool) → w ≡ words (i + k / 32) → bit ≡ digit 32 w (1 + k % 32) → old ≡ field words i k → new ≡ old ++ bit ∷ [] → new ≡ field words i (k + 1)
unfolding field field_bit
field_more words i k w old new bit from is before pushed =
    let back : k + 1 - 1 ≡ k = omega arith in
    numbered_push (field_bit words i) k old new bit before pushed (is ∙ rw (from, back) refl)

pub field_none : (words : ℕ → ℕ) (i : ℕ) → [] ≡ field words i 0
unfolding field numbered
field_none words i = refl

pub length-field : (words : ℕ → ℕ) (i n : ℕ) → length (field words i n) ≡ n
unfolding field
length-field words i n = length-numbered (field_bit words i) n

leading_digit : (w k : ℕ) → 1 ≤ k → k ≤ 14 → digit 14 (leading 14 w) k ≡ digit 32 w k
unfolding digit leading
leading_digit w k low high =
    let e : 18 + (14 - k) ≡ 32 - k = omega arith in
    ap (λ n. nat_eq (n % 2) 1) (shr-shr w 18 (14 - k) ∙ ap (λ (j : ℕ). w / 2 ^ j) e)

pub access_digits : AccessIsField
unfolding digits field field_bit
access_digits words i = numbered_same _ _ 14 false (λ k low high.
    let first : (k - 1) / 32 ≡ 0 = omega arith in
    let place : 1 + (k - 1) % 32 ≡ k = omega arith in
    leading_digit (words i) k low high ∙ rw (first, place, add-zero i) refl)
