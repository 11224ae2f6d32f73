-- The word of a message in which one bit is turned.
use Prim.Native.Nat.{zero, suc}
use Rattle.std.proofs.Common.{◌≡◌, ◌≢◌, ℕ, ◌+◌, ◌-◌, ◌%◌, ◌^◌, ◌<◌, ◌≤◌, inl, inr, Bool, true, false, not, nat_eq, nat_lt, List, [], ◌++◌, length, get_or, arith, refl, ap, sym, ◌∙◌}
use Rattle.std.specs.Prelude.{cond, slice_index}
use Rattle.std.proofs.lemmas.Bool.{cases_lt, cases_eq, lt-ltb, le-ltb}
use Rattle.std.proofs.lemmas.Bool.Decides.{nat_tests}
use Rattle.std.proofs.lemmas.List.{get_or_append_left, get_or-append_right, get_or-set_same, get_or-set_other, length-set}
use Rattle.std.proofs.lemmas.Nat.{xor_comm}
use Rattle.std.proofs.lemmas.Nat.Bits.{bit_at_xor, bit_at-lt, bit_at-pow_same, bit_at-pow_other}
use Rattle.std.specs.Int.{bit_at}
use Rattle.std.specs.Int.Bits.{bit_xor, xor_assoc, xor_self, xor_zero_l}
use Rattle.tetra_bits.specs.Digits.{digit, digits}
use Rattle.tetra_bits.specs.Sums.{add2}
use Rattle.tetra_rm.specs.Code.{row_part, rows_sum, access_word}
use Rattle.tetra_rm.specs.Turning.{turned_message, is_changed}
use Rattle.tetra_bits.specs.Numbered.{is_numbered}
use Rattle.tetra_rm.specs.lemmas.Numbers.{digit_at, length-digits}

pub add_one_bit : (b : Bool) → not b ≡ add2 b true
add_one_bit true = refl
add_one_bit false = refl

pub add_no_bit : (b : Bool) → b ≡ add2 b false
add_no_bit true = refl
add_no_bit false = refl

-- a digit of an exclusive or
digit_sum : (a b : ℕ) → a < 2 → b < 2 → nat_eq ((a + b) % 2) 1 ≡ add2 (nat_eq a 1) (nat_eq b 1)
digit_sum zero zero ha hb = refl
digit_sum zero (suc zero) ha hb = refl
digit_sum (suc zero) zero ha hb = refl
digit_sum (suc zero) (suc zero) ha hb = refl
digit_sum (suc (suc a)) b ha hb = absurd (omega arith)
digit_sum zero (suc (suc b)) ha hb = absurd (omega arith)
digit_sum (suc zero) (suc (suc b)) ha hb = absurd (omega arith)

turned_part : (b : Bool) (row : ℕ) → cond (not b) row 0 ≡ bit_xor (cond b row 0) row
turned_part true row = sym (xor_self row)
turned_part false row = sym (xor_zero_l row)

last_two : (a b c : ℕ) → bit_xor (bit_xor a b) c ≡ bit_xor (bit_xor a c) b
last_two a b c = xor_assoc a b c ∙ ap (bit_xor a) (xor_comm b c) ∙ sym (xor_assoc a c b)

module _ (rows : List ℕ) (m : List Bool) (r : ℕ) (size : length m ≡ 14) (here : r < 14) where
  same_bit : (k : ℕ) → k ≢ r → get_or (turned_message m (r + 1)) k false ≡ get_or m k false
  unfolding turned_message
  same_bit k other = let back : r + 1 - 1 ≡ r = omega arith in rw back (get_or-set_other m r k (not (get_or m r false)) false other)

  own_bit : get_or (turned_message m (r + 1)) r false ≡ not (get_or m r false)
  unfolding turned_message
  own_bit = let back : r + 1 - 1 ≡ r = omega arith in let inside : r < length m = omega arith in rw back (get_or-set_same m r (not (get_or m r false)) false inside)

  length_turned : length (turned_message m (r + 1)) ≡ 14
  unfolding turned_message
  length_turned = length-set m (r + 1 - 1) (not (get_or m (r + 1 - 1) false)) ∙ size

  same_part : (k : ℕ) → k ≢ r → row_part rows (turned_message m (r + 1)) k ≡ row_part rows m k
  unfolding row_part
  same_part k other = ap (λ b. cond b (slice_index rows k) 0) (same_bit k other)

  own_part : row_part rows (turned_message m (r + 1)) r ≡ bit_xor (row_part rows m r) (slice_index rows r)
  unfolding row_part
  own_part = ap (λ b. cond b (slice_index rows r) 0) own_bit ∙ turned_part (get_or m r false) (slice_index rows r)

  sum_before : (n : ℕ) → n ≤ r → rows_sum rows (turned_message m (r + 1)) n ≡ rows_sum rows m n
  unfolding rows_sum
  sum_before zero h = refl
  sum_before (suc n) h =
      let other : n ≢ r = λ e. absurd (omega arith) in
      rw (sum_before n (omega arith), same_part n other) refl

  sum_behind : (n : ℕ) → r < n → rows_sum rows (turned_message m (r + 1)) n ≡ bit_xor (rows_sum rows m n) (slice_index rows r)
  unfolding rows_sum
  sum_behind zero h = absurd (omega arith)
  sum_behind (suc n) h = elim (cases_lt r n) [
    | inl before ↦
        let other : n ≢ r = λ e. absurd (omega arith) in
        rw (sum_behind n before, same_part n other) (last_two (rows_sum rows m n) (slice_index rows r) (row_part rows m n))
    | inr ge ↦
        let at : n ≡ r = omega arith in
        let part : row_part rows (turned_message m (r + 1)) n ≡ bit_xor (row_part rows m n) (slice_index rows r) =
        ap (row_part rows (turned_message m (r + 1))) at ∙ own_part ∙ ap (λ k. bit_xor (row_part rows m k) (slice_index rows r)) (sym at) in
        rw (sum_before n (omega arith), part) (sym (xor_assoc (rows_sum rows m n) (row_part rows m n) (slice_index rows r)))
  ]

  front_bit : (k : ℕ) → k < 14 → get_or (access_word rows (turned_message m (r + 1))) k false ≡ add2 (get_or (access_word rows m) k false) (is_changed rows (r + 1) k)
  unfolding access_word is_changed
  front_bit k h =
      let test : nat_lt k 14 ≡ true = lt-ltb k 14 h in
      let back : r + 1 - 1 ≡ r = omega arith in
      let in_turned : k < length (turned_message m (r + 1)) = omega (arith, length_turned) in
      let in_m : k < length m = omega arith in
      rw (test, back, get_or_append_left (turned_message m (r + 1)) (digits 16 (rows_sum rows (turned_message m (r + 1)) 14)) false k in_turned, get_or_append_left m (digits 16 (rows_sum rows m 14)) false k in_m)
      (elim (cases_eq k r) [
        | inl e ↦
            let same : nat_eq k r ≡ true = grind (arith, nat_tests) in
            ap (λ i. get_or (turned_message m (r + 1)) i false) e ∙ own_bit ∙ add_one_bit (get_or m r false) ∙ ap (λ i. add2 (get_or m i false) true) (sym e) ∙ ap (add2 (get_or m k false)) (sym same)
        | inr ne ↦
            let apart : nat_eq k r ≡ false = grind (arith, nat_tests) in
            same_bit k ne ∙ add_no_bit (get_or m k false) ∙ ap (add2 (get_or m k false)) (sym apart)
      ])

  behind_bit : (k : ℕ) → 14 ≤ k → k < 30 → get_or (access_word rows (turned_message m (r + 1))) k false ≡ add2 (get_or (access_word rows m) k false) (is_changed rows (r + 1) k)
  unfolding access_word is_changed digit
  behind_bit k from h =
      let test : nat_lt k 14 ≡ false = le-ltb k 14 from in
      let back : r + 1 - 1 ≡ r = omega arith in
      let i : ℕ = 16 - (k - 14 + 1) in
      let place : 16 - (k - 13) ≡ 16 - (k - 14 + 1) = omega arith in
      let whole : rows_sum rows (turned_message m (r + 1)) 14 ≡ bit_xor (rows_sum rows m 14) (slice_index rows r) = sum_behind 14 here in
      let new : get_or (turned_message m (r + 1) ++ digits 16 (rows_sum rows (turned_message m (r + 1)) 14)) k false ≡ nat_eq (bit_at (rows_sum rows (turned_message m (r + 1)) 14) (16 - (k - 14 + 1))) 1 =
      get_or-append_right (turned_message m (r + 1)) (digits 16 (rows_sum rows (turned_message m (r + 1)) 14)) 14 k false length_turned from ∙ digit_at 16 (rows_sum rows (turned_message m (r + 1)) 14) (k - 14) (omega arith) in
      let old : get_or (m ++ digits 16 (rows_sum rows m 14)) k false ≡ nat_eq (bit_at (rows_sum rows m 14) (16 - (k - 14 + 1))) 1 =
      get_or-append_right m (digits 16 (rows_sum rows m 14)) 14 k false size from ∙ digit_at 16 (rows_sum rows m 14) (k - 14) (omega arith) in
      let xored : nat_eq (bit_at (bit_xor (rows_sum rows m 14) (slice_index rows r)) (16 - (k - 14 + 1))) 1 ≡ add2 (nat_eq (bit_at (rows_sum rows m 14) (16 - (k - 14 + 1))) 1) (nat_eq (bit_at (slice_index rows r) (16 - (k - 14 + 1))) 1) =
      ap (λ n. nat_eq n 1) (bit_at_xor (rows_sum rows m 14) (slice_index rows r) (16 - (k - 14 + 1)))
      ∙ digit_sum (bit_at (rows_sum rows m 14) (16 - (k - 14 + 1))) (bit_at (slice_index rows r) (16 - (k - 14 + 1))) (bit_at-lt (rows_sum rows m 14) (16 - (k - 14 + 1))) (bit_at-lt (slice_index rows r) (16 - (k - 14 + 1))) in
      rw (test, back, place, old) (new ∙ ap (λ s. nat_eq (bit_at s (16 - (k - 14 + 1))) 1) whole ∙ xored)

  -- each bit of the word that changes is turned, and the others stay
  pub turned_bit : (k : ℕ) → k < 30 → get_or (access_word rows (turned_message m (r + 1))) k false ≡ add2 (get_or (access_word rows m) k false) (is_changed rows (r + 1) k)
  turned_bit k h = elim (cases_lt k 14) [ inl front ↦ front_bit k front | inr behind ↦ behind_bit k behind h ]

-- a bit of a number turned is that bit of the message turned
turned_digit : (x r k : ℕ) → r < 14 → k < 14 → get_or (turned_message (digits 14 x) (r + 1)) k false ≡ digit 14 (bit_xor x (2 ^ (13 - r))) (k + 1)
unfolding digit
turned_digit x r k here h = elim (cases_eq k r) [
  | inl e ↦
      let place : 13 - r ≡ 14 - (k + 1) = omega arith in
      let old : get_or (digits 14 x) k false ≡ nat_eq (bit_at x (14 - (k + 1))) 1 = digit_at 14 x k h in
      let one : bit_at (2 ^ (13 - r)) (14 - (k + 1)) ≡ 1 = rw place (bit_at-pow_same (14 - (k + 1))) in
      let sum : bit_at (bit_xor x (2 ^ (13 - r))) (14 - (k + 1)) ≡ (bit_at x (14 - (k + 1)) + 1) % 2 = bit_at_xor x (2 ^ (13 - r)) (14 - (k + 1)) ∙ ap (λ b. (bit_at x (14 - (k + 1)) + b) % 2) one in
      ap (λ i. get_or (turned_message (digits 14 x) (r + 1)) i false) e ∙ own_bit [] (digits 14 x) r (length-digits 14 x) here
      ∙ ap (λ i. not (get_or (digits 14 x) i false)) (sym e) ∙ ap not old ∙ add_one_bit (nat_eq (bit_at x (14 - (k + 1))) 1)
      ∙ sym (ap (λ b. nat_eq b 1) sum ∙ digit_sum (bit_at x (14 - (k + 1))) 1 (bit_at-lt x (14 - (k + 1))) (omega arith))
  | inr ne ↦
      let old : get_or (digits 14 x) k false ≡ nat_eq (bit_at x (14 - (k + 1))) 1 = digit_at 14 x k h in
      let apart : 14 - (k + 1) ≢ 13 - r = λ e. ne (omega arith) in
      let none : bit_at (2 ^ (13 - r)) (14 - (k + 1)) ≡ 0 = bit_at-pow_other (13 - r) (14 - (k + 1)) apart in
      let small : bit_at x (14 - (k + 1)) < 2 = bit_at-lt x (14 - (k + 1)) in
      let sum : bit_at (bit_xor x (2 ^ (13 - r))) (14 - (k + 1)) ≡ bit_at x (14 - (k + 1)) = bit_at_xor x (2 ^ (13 - r)) (14 - (k + 1)) ∙ omega arith in
      same_bit [] (digits 14 x) r (length-digits 14 x) here k ne ∙ old ∙ ap (λ b. nat_eq b 1) (sym sum)
]

pub digits_turned : (x r : ℕ) → r < 14 → turned_message (digits 14 x) (r + 1) ≡ digits 14 (bit_xor x (2 ^ (13 - r)))
unfolding digits
digits_turned x r here =
    is_numbered (digit 14 (bit_xor x (2 ^ (13 - r)))) 14 false (turned_message (digits 14 x) (r + 1)) (length_turned [] (digits 14 x) r (length-digits 14 x) here) (λ k h. turned_digit x r k here h)

-- and its row comes to the sum
pub turned_sum : (rows : List ℕ) (x r : ℕ) → r < 14 → rows_sum rows (digits 14 (bit_xor x (2 ^ (13 - r)))) 14 ≡ bit_xor (rows_sum rows (digits 14 x) 14) (slice_index rows r)
turned_sum rows x r here = ap (λ m. rows_sum rows m 14) (sym (digits_turned x r here)) ∙ sum_behind rows (digits 14 x) r (length-digits 14 x) here 14 here
