-- A table of the sums of rows for one row more.
use Prim.Native.Nat.{zero, suc}
use Rattle.std.proofs.Common.{◌≡◌, ℕ, ◌+◌, ◌-◌, ◌*◌, ◌^◌, ◌<◌, ◌≤◌, inl, inr, List, arith, refl, ap, sym, ◌∙◌}
use Rattle.std.specs.Prelude.{slice_index}
use Rattle.std.proofs.lemmas.Bool.{cases_lt}
use Rattle.std.proofs.lemmas.Nat.{xor_comm, pow_pos, pow-add}
use Rattle.std.proofs.Math.Nat.{mul-lt-mul_of_pos_right}
use Rattle.std.specs.Int.Bits.{bit_xor, xor_shifted}
use Rattle.tetra_bits.specs.Digits.{digits}
use Rattle.tetra_rm.specs.Code.{rows_sum}
use Rattle.std.proofs.lemmas.Nat.Bits.{bit_at-zero}
use Rattle.tetra_rm.proofs.SumsOfParts.{part_of_bit}
use Rattle.tetra_rm.proofs.Turned.{turned_sum}

-- a bit that is set in front of v
in_front : (n e v : ℕ) → v < 2 ^ n → (2 ^ n + v) * 2 ^ e ≡ bit_xor (v * 2 ^ e) (2 ^ (n + e))
in_front n e v small =
    let power : 2 ^ (n + e) ≡ 2 ^ n * 2 ^ e = pow-add 2 n e in
    let positive : 0 < 2 ^ e = pow_pos e in
    let below : v * 2 ^ e < 2 ^ n * 2 ^ e = mul-lt-mul_of_pos_right small positive in
    let one : bit_xor (1 * 2 ^ (n + e)) (v * 2 ^ e) ≡ 1 * 2 ^ (n + e) + v * 2 ^ e = xor_shifted 1 (n + e) (v * 2 ^ e) (omega arith) in
    let plain : 1 * 2 ^ (n + e) ≡ 2 ^ (n + e) = omega arith in
    let whole : (2 ^ n + v) * 2 ^ e ≡ 2 ^ n * 2 ^ e + v * 2 ^ e = omega arith in
    whole ∙ ap (λ p. p + v * 2 ^ e) (sym power ∙ sym plain) ∙ sym one ∙ ap (λ p. bit_xor p (v * 2 ^ e)) plain ∙ xor_comm (2 ^ (n + e)) (v * 2 ^ e)

pub sums_more : (rows : List ℕ) (n e size row : ℕ) (old new : List ℕ) → n + e < 14 → size ≡ 2 ^ n → row ≡ slice_index rows (13 - (n + e))
    → ((v : ℕ) → v < size → slice_index old v ≡ rows_sum rows (digits 14 (v * 2 ^ e)) 14)
    → ((k : ℕ) → k < size → slice_index new k ≡ slice_index old k)
    → ((k : ℕ) → k < size → slice_index new (size + k) ≡ bit_xor (slice_index old k) row)
    → (v : ℕ) → v < size * 2 → slice_index new v ≡ rows_sum rows (digits 14 (v * 2 ^ e)) 14
sums_more rows n e size row old new there es er table first second v below = elim (cases_lt v size) [
  | inl lower ↦ first v lower ∙ table v lower
  | inr upper ↦
      let small : v - size < 2 ^ n = omega arith in
      let place : size + (v - size) ≡ v = omega arith in
      let number : 2 ^ n + (v - size) ≡ v = omega arith in
      let back : 13 - (13 - (n + e)) ≡ n + e = omega arith in
      let turned : rows_sum rows (digits 14 (bit_xor ((v - size) * 2 ^ e) (2 ^ (13 - (13 - (n + e)))))) 14 ≡ bit_xor (rows_sum rows (digits 14 ((v - size) * 2 ^ e)) 14) (slice_index rows (13 - (n + e))) =
      turned_sum rows ((v - size) * 2 ^ e) (13 - (n + e)) (omega arith) in
      ap (slice_index new) (sym place) ∙ second (v - size) (omega arith) ∙ ap (bit_xor (slice_index old (v - size))) er
      ∙ ap (λ s. bit_xor s (slice_index rows (13 - (n + e)))) (table (v - size) (omega arith))
      ∙ sym turned
      ∙ ap (λ p. rows_sum rows (digits 14 (bit_xor ((v - size) * 2 ^ e) (2 ^ p))) 14) back
      ∙ ap (λ x. rows_sum rows (digits 14 x) 14) (sym (in_front n e (v - size) small))
      ∙ ap (λ x. rows_sum rows (digits 14 (x * 2 ^ e)) 14) number
]

-- message 0 has no rows
none_to : (rows : List ℕ) (n : ℕ) → n ≤ 14 → rows_sum rows (digits 14 0) n ≡ 0
unfolding rows_sum
none_to rows zero h = refl
none_to rows (suc n) h = rw (none_to rows n (omega arith), part_of_bit rows 0 n 0 (omega arith) (bit_at-zero (14 - (n + 1)))) refl

pub sum_of_none : (rows : List ℕ) (e : ℕ) → rows_sum rows (digits 14 (0 * 2 ^ e)) 14 ≡ 0
sum_of_none rows e = let none : 0 * 2 ^ e ≡ 0 = omega arith in rw none (none_to rows 14 (omega arith))
