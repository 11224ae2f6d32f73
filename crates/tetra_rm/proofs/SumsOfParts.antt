-- Sums of rows by parts of the message.
use Prim.Native.Nat.{zero, suc}
use Rattle.std.proofs.Common.{◌≡◌, ℕ, ◌+◌, ◌-◌, ◌*◌, ◌^◌, ◌<◌, ◌≤◌, inl, inr, false, nat_eq, List, get_or, arith, refl, ap, sym, ◌∙◌}
use Rattle.std.specs.Prelude.{cond, slice_index}
use Rattle.std.proofs.lemmas.Bool.{cases_lt}
use Rattle.std.proofs.lemmas.Nat.{xor_comm}
use Rattle.std.proofs.lemmas.Nat.Bits.{bit_at_cat_low, bit_at_cat_high, bit_at_above, bit_at-zero}
use Rattle.std.specs.Int.{bit_at}
use Rattle.std.specs.Int.Bits.{bit_xor, xor_assoc, xor_zero_l, xor_zero_r}
use Rattle.tetra_bits.specs.Digits.{digits}
use Rattle.tetra_rm.specs.Code.{row_part, rows_sum}
use Rattle.tetra_rm.specs.lemmas.Numbers.{digit_at}

xor_swapped : (a b c d : ℕ) → bit_xor (bit_xor a b) (bit_xor c d) ≡ bit_xor (bit_xor a c) (bit_xor b d)
xor_swapped a b c d =
    xor_assoc a b (bit_xor c d)
    ∙ ap (bit_xor a) (sym (xor_assoc b c d) ∙ ap (λ x. bit_xor x d) (xor_comm b c) ∙ xor_assoc c b d)
    ∙ sym (xor_assoc a c (bit_xor b d))

-- bit r of 14 of a number, counted from 0
message_bit : (m r : ℕ) → r < 14 → get_or (digits 14 m) r false ≡ nat_eq (bit_at m (14 - (r + 1))) 1
message_bit m r h = digit_at 14 m r h

pub part_of_bit : (rows : List ℕ) (m r b : ℕ) → r < 14 → bit_at m (14 - (r + 1)) ≡ b → row_part rows (digits 14 m) r ≡ cond (nat_eq b 1) (slice_index rows r) 0
unfolding row_part
part_of_bit rows m r b h e = ap (λ x. cond x (slice_index rows r) 0) (message_bit m r h ∙ ap (λ n. nat_eq n 1) e)

-- a row stands for a bit of one part of the message: of those in front, or of the last b
module _ (rows : List ℕ) (b u l : ℕ) (few : b ≤ 14) (small : l < 2 ^ b) where
  parts : (r : ℕ) → r < 14 → row_part rows (digits 14 (u * 2 ^ b + l)) r ≡ bit_xor (row_part rows (digits 14 (u * 2 ^ b)) r) (row_part rows (digits 14 l) r)
  parts r h = elim (cases_lt r (14 - b)) [
    | inl upper ↦
        let whole : bit_at (u * 2 ^ b + l) (14 - (r + 1)) ≡ bit_at u (14 - (r + 1) - b) = bit_at_cat_high u b l (14 - (r + 1)) small (omega arith) in
        let alone : bit_at (u * 2 ^ b + 0) (14 - (r + 1)) ≡ bit_at u (14 - (r + 1) - b) = bit_at_cat_high u b 0 (14 - (r + 1)) (omega arith) (omega arith) in
        let plain : u * 2 ^ b + 0 ≡ u * 2 ^ b = omega arith in
        let none : bit_at l (14 - (r + 1)) ≡ 0 = bit_at_above l b (14 - (r + 1)) small (omega arith) in
        part_of_bit rows (u * 2 ^ b + l) r _ h whole
        ∙ sym (part_of_bit rows (u * 2 ^ b) r _ h (ap (λ n. bit_at n (14 - (r + 1))) (sym plain) ∙ alone))
        ∙ sym (xor_zero_r (row_part rows (digits 14 (u * 2 ^ b)) r))
        ∙ ap (bit_xor (row_part rows (digits 14 (u * 2 ^ b)) r)) (sym (part_of_bit rows l r 0 h none))
    | inr lower ↦
        let whole : bit_at (u * 2 ^ b + l) (14 - (r + 1)) ≡ bit_at l (14 - (r + 1)) = bit_at_cat_low u b l (14 - (r + 1)) (omega arith) in
        let alone : bit_at (u * 2 ^ b + 0) (14 - (r + 1)) ≡ bit_at 0 (14 - (r + 1)) = bit_at_cat_low u b 0 (14 - (r + 1)) (omega arith) in
        let plain : u * 2 ^ b + 0 ≡ u * 2 ^ b = omega arith in
        let none : bit_at (u * 2 ^ b) (14 - (r + 1)) ≡ 0 = ap (λ n. bit_at n (14 - (r + 1))) (sym plain) ∙ alone ∙ bit_at-zero (14 - (r + 1)) in
        part_of_bit rows (u * 2 ^ b + l) r _ h whole
        ∙ sym (part_of_bit rows l r _ h refl)
        ∙ sym (xor_zero_l (row_part rows (digits 14 l) r))
        ∙ ap (λ x. bit_xor x (row_part rows (digits 14 l) r)) (sym (part_of_bit rows (u * 2 ^ b) r 0 h none))
  ]

  sums_to : (n : ℕ) → n ≤ 14 → rows_sum rows (digits 14 (u * 2 ^ b + l)) n ≡ bit_xor (rows_sum rows (digits 14 (u * 2 ^ b)) n) (rows_sum rows (digits 14 l) n)
  unfolding rows_sum
  sums_to zero h = refl
  sums_to (suc n) h =
      rw (sums_to n (omega arith), parts n (omega arith))
      (xor_swapped (rows_sum rows (digits 14 (u * 2 ^ b)) n) (rows_sum rows (digits 14 l) n) (row_part rows (digits 14 (u * 2 ^ b)) n) (row_part rows (digits 14 l) n))

  -- the sum of the rows of a message is that of its parts
  pub sum_by_parts : rows_sum rows (digits 14 (u * 2 ^ b + l)) 14 ≡ bit_xor (rows_sum rows (digits 14 (u * 2 ^ b)) 14) (rows_sum rows (digits 14 l) 14)
  sum_by_parts = sums_to 14 (omega arith)
