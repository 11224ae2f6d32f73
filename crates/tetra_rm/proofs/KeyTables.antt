-- Tables of keys for one bit more.
use Prim.Native.Nat.{zero, suc}
use Rattle.std.proofs.Common.{◌≡◌, ◌≢◌, ℕ, ◌+◌, ◌-◌, ◌*◌, ◌/◌, ◌%◌, ◌^◌, ◌<◌, ◌≤◌, inl, inr, true, false, not, nat_eq, List, [], ◌∷◌, length, get_or, arith, refl, ap, sym, ◌∙◌}
use Rattle.std.specs.Prelude.{ℤ, slice_index, slice_set}
use Rattle.std.proofs.lemmas.Bool.{cases_lt, cases_eq}
use Rattle.std.proofs.lemmas.List.{get_or-set_same, get_or-set_other, length-set}
use Rattle.std.proofs.lemmas.Nat.{xor_mod, pow_pos, pow-add}
use Rattle.std.proofs.lemmas.Nat.Bits.{bit_at_xor, bit_at_above, bit_at_cat_high, bit_at-lt}
use Rattle.std.proofs.Math.Nat.{pow-succ', add-mod_left, div-div-eq-div-mul, mul-le-mul_right, pow-le-pow_right}
use Rattle.std.specs.Int.{bit_at}
use Rattle.std.specs.Int.Bits.{bit_xor}
use Rattle.tetra_bits.specs.Cost.{cost}
use Rattle.tetra_bits.specs.Soft.{AllWithin, value_at}
use Rattle.tetra_bits.specs.Sums.{add2}
use Rattle.tetra_rm.specs.Search.{part_metric, AreLanes, lane, lane_bit}
use Rattle.tetra_rm.proofs.Parts.{part_more, part_next, part_low, part_none, part_within}
use Rattle.tetra_rm.proofs.Turned.{add_one_bit, add_no_bit}

pub keys_more : (soft : List ℤ) (from n size unit weight zero_key one_key : ℕ) (old new : List ℕ) → from < length soft → size ≡ 2 ^ n → weight ≡ size * unit
    → zero_key ≡ cost (value_at soft from) false * 16384 → one_key ≡ cost (value_at soft from) true * 16384 + weight
    → ((v : ℕ) → v < size → slice_index old v ≡ part_metric soft (suc from) n v * 16384 + v * unit)
    → ((k : ℕ) → k < size → slice_index new k ≡ slice_index old k + zero_key)
    → ((k : ℕ) → k < size → slice_index new (size + k) ≡ slice_index old k + one_key)
    → (v : ℕ) → v < size * 2 → slice_index new v ≡ part_metric soft from (suc n) v * 16384 + v * unit
keys_more soft from n size unit weight zero_key one_key old new there es ew ez eo table first second v below = elim (cases_lt v size) [
  | inl lower ↦
      let small : v < 2 ^ n = omega arith in
      let more : part_metric soft from (suc n) (0 * 2 ^ n + v) ≡ cost (value_at soft from) false + part_metric soft (suc from) n v = part_more soft from n 0 v there (omega arith) small in
      let same : 0 * 2 ^ n + v ≡ v = omega arith in
      let before : slice_index old v ≡ part_metric soft (suc from) n v * 16384 + v * unit = table v lower in
      let now : slice_index new v ≡ slice_index old v + zero_key = first v lower in
      let here : part_metric soft from (suc n) (0 * 2 ^ n + v) ≡ part_metric soft from (suc n) v = ap (part_metric soft from (suc n)) same in
      omega arith
  | inr upper ↦
      let small : v - size < 2 ^ n = omega arith in
      let more : part_metric soft from (suc n) (1 * 2 ^ n + (v - size)) ≡ cost (value_at soft from) true + part_metric soft (suc from) n (v - size) = part_more soft from n 1 (v - size) there (omega arith) small in
      let same : 1 * 2 ^ n + (v - size) ≡ v = omega arith in
      let place : size + (v - size) ≡ v = omega arith in
      let before : slice_index old (v - size) ≡ part_metric soft (suc from) n (v - size) * 16384 + (v - size) * unit = table (v - size) (omega arith) in
      let now : slice_index new (size + (v - size)) ≡ slice_index old (v - size) + one_key = second (v - size) (omega arith) in
      let there : slice_index new (size + (v - size)) ≡ slice_index new v = ap (slice_index new) place in
      let here : part_metric soft from (suc n) (1 * 2 ^ n + (v - size)) ≡ part_metric soft from (suc n) v = ap (part_metric soft from (suc n)) same in
      let product : (size + (v - size)) * unit ≡ size * unit + (v - size) * unit = omega arith in
      let number : (size + (v - size)) * unit ≡ v * unit = ap (λ n. n * unit) place in
      omega arith
]

-- a digit of an exclusive or with a number that has no bit there, or has it
unset_bit : (own v n : ℕ) → v < 2 ^ n → nat_eq (bit_at (bit_xor v own) n) 1 ≡ nat_eq (bit_at own n) 1
unset_bit own v n small =
    let none : bit_at v n ≡ 0 = bit_at_above v n n small (omega arith) in
    let l : bit_at own n < 2 = bit_at-lt own n in
    let sum : bit_at (bit_xor v own) n ≡ bit_at own n = bit_at_xor v own n ∙ omega arith in
    ap (λ b. nat_eq b 1) sum

turned_bit : (b : ℕ) → b < 2 → nat_eq ((1 + b) % 2) 1 ≡ not (nat_eq b 1)
turned_bit zero h = refl
turned_bit (suc zero) h = refl
turned_bit (suc (suc b)) h = absurd (omega arith)

set_bit : (own v n : ℕ) → v < 2 ^ n → nat_eq (bit_at (bit_xor (2 ^ n + v) own) n) 1 ≡ not (nat_eq (bit_at own n) 1)
set_bit own v n small =
    let one : bit_at (1 * 2 ^ n + v) n ≡ bit_at 1 (n - n) = bit_at_cat_high 1 n v n small (omega arith) in
    let none : n - n ≡ 0 = omega arith in
    let first : bit_at 1 0 ≡ 1 = refl in
    let plain : 1 * 2 ^ n + v ≡ 2 ^ n + v = omega arith in
    let set : bit_at (2 ^ n + v) n ≡ 1 = ap (λ x. bit_at x n) (sym plain) ∙ one ∙ ap (bit_at 1) none ∙ first in
    ap (λ b. nat_eq b 1) (bit_at_xor (2 ^ n + v) own n ∙ ap (λ b. (b + bit_at own n) % 2) set) ∙ turned_bit (bit_at own n) (bit_at-lt own n)

-- and the digits behind it are the same
same_low : (own v n : ℕ) → v < 2 ^ n → bit_xor (2 ^ n + v) own % 2 ^ n ≡ bit_xor v own % 2 ^ n
same_low own v n small =
    let positive : 0 < 2 ^ n = pow_pos n in
    let low : (2 ^ n + v) % 2 ^ n ≡ v % 2 ^ n = add-mod_left (2 ^ n) v in
    xor_mod (2 ^ n + v) own n ∙ ap (λ x. bit_xor x (own % 2 ^ n)) low ∙ sym (xor_mod v own n)

own_bit : (sums : List ℕ) (place n j : ℕ) → nat_eq (bit_at (slice_index sums j / 2 ^ place) n) 1 ≡ lane_bit sums (place + n) j
own_bit sums place n j = ap (λ x. nat_eq (x % 2) 1) (div-div-eq-div-mul _ _ _ ∙ ap (λ p. slice_index sums j / p) (sym (pow-add 2 place n)))

pub lanes_more : (soft : List ℤ) (from n size place : ℕ) (sums zeros ones : List ℕ) (old new : List (List ℕ)) → from < length soft → size ≡ 2 ^ n
    → ((j : ℕ) → j < 8 → slice_index zeros j ≡ cost (value_at soft from) (add2 (lane_bit sums (place + n) j) false) * 16384)
    → ((j : ℕ) → j < 8 → slice_index ones j ≡ cost (value_at soft from) (add2 (lane_bit sums (place + n) j) true) * 16384)
    → ((v j : ℕ) → v < size → j < 8 → lane old v j ≡ part_metric soft (suc from) n (bit_xor v (slice_index sums j / 2 ^ place)) * 16384)
    → ((k j : ℕ) → k < size → j < 8 → lane new k j ≡ lane old k j + slice_index zeros j)
    → ((k j : ℕ) → k < size → j < 8 → lane new (size + k) j ≡ lane old k j + slice_index ones j)
    → (v j : ℕ) → v < size * 2 → j < 8 → lane new v j ≡ part_metric soft from (suc n) (bit_xor v (slice_index sums j / 2 ^ place)) * 16384
lanes_more soft from n size place sums zeros ones old new there es ez eo table first second v j below h =
    elim (cases_lt v size) [
      | inl lower ↦
          let small : v < 2 ^ n = omega arith in
          let bit : nat_eq (bit_at (bit_xor v (slice_index sums j / 2 ^ place)) n) 1 ≡ add2 (lane_bit sums (place + n) j) false =
          unset_bit (slice_index sums j / 2 ^ place) v n small ∙ own_bit sums place n j ∙ add_no_bit (lane_bit sums (place + n) j) in
          let more : part_metric soft from (suc n) (bit_xor v (slice_index sums j / 2 ^ place)) ≡ cost (value_at soft from) (add2 (lane_bit sums (place + n) j) false) + part_metric soft (suc from) n (bit_xor v (slice_index sums j / 2 ^ place)) =
          part_next soft from n (bit_xor v (slice_index sums j / 2 ^ place)) there ∙ ap (λ b. cost (value_at soft from) b + part_metric soft (suc from) n (bit_xor v (slice_index sums j / 2 ^ place))) bit in
          let before : lane old v j ≡ part_metric soft (suc from) n (bit_xor v (slice_index sums j / 2 ^ place)) * 16384 = table v j lower h in
          let now : lane new v j ≡ lane old v j + slice_index zeros j = first v j lower h in
          let step : slice_index zeros j ≡ cost (value_at soft from) (add2 (lane_bit sums (place + n) j) false) * 16384 = ez j h in
          omega arith
      | inr upper ↦
          let small : v - size < 2 ^ n = omega arith in
          let number : 2 ^ n + (v - size) ≡ v = omega arith in
          let at : size + (v - size) ≡ v = omega arith in
          let bit : nat_eq (bit_at (bit_xor (2 ^ n + (v - size)) (slice_index sums j / 2 ^ place)) n) 1 ≡ add2 (lane_bit sums (place + n) j) true =
          set_bit (slice_index sums j / 2 ^ place) (v - size) n small ∙ ap not (own_bit sums place n j) ∙ add_one_bit (lane_bit sums (place + n) j) in
          let more : part_metric soft from (suc n) (bit_xor (2 ^ n + (v - size)) (slice_index sums j / 2 ^ place)) ≡ cost (value_at soft from) (add2 (lane_bit sums (place + n) j) true) + part_metric soft (suc from) n (bit_xor (v - size) (slice_index sums j / 2 ^ place)) =
          part_next soft from n (bit_xor (2 ^ n + (v - size)) (slice_index sums j / 2 ^ place)) there
          ∙ ap (λ b. cost (value_at soft from) b + part_metric soft (suc from) n (bit_xor (2 ^ n + (v - size)) (slice_index sums j / 2 ^ place))) bit
          ∙ ap (λ p. cost (value_at soft from) (add2 (lane_bit sums (place + n) j) true) + p) (part_low soft (suc from) n (bit_xor (2 ^ n + (v - size)) (slice_index sums j / 2 ^ place)) (bit_xor (v - size) (slice_index sums j / 2 ^ place)) (same_low (slice_index sums j / 2 ^ place) (v - size) n small)) in
          let here : part_metric soft from (suc n) (bit_xor (2 ^ n + (v - size)) (slice_index sums j / 2 ^ place)) ≡ part_metric soft from (suc n) (bit_xor v (slice_index sums j / 2 ^ place)) =
          ap (λ x. part_metric soft from (suc n) (bit_xor x (slice_index sums j / 2 ^ place))) number in
          let before : lane old (v - size) j ≡ part_metric soft (suc from) n (bit_xor (v - size) (slice_index sums j / 2 ^ place)) * 16384 = table (v - size) j (omega arith) h in
          let now : lane new (size + (v - size)) j ≡ lane old (v - size) j + slice_index ones j = second (v - size) j (omega arith) h in
          let there : lane new (size + (v - size)) j ≡ lane new v j = ap (λ k. lane new k j) at in
          let step : slice_index ones j ≡ cost (value_at soft from) (add2 (lane_bit sums (place + n) j) true) * 16384 = eo j h in
          omega arith
    ]

-- room for as many entries again
pub room_for_more : (size k m : ℕ) → size ≡ 2 ^ k → k < m → size + size ≤ 2 ^ m
room_for_more size k m e h =
    let double : 2 ^ suc k ≡ 2 * 2 ^ k = pow-succ' 2 k in
    let most : 2 ^ suc k ≤ 2 ^ m = pow-le-pow_right (omega arith) h in
    omega arith

-- the keys of at most six bits
pub keys_small : (soft : List ℤ) (from k v unit key : ℕ) → from + k ≤ length soft → AllWithin 4095 soft → k ≤ 6 → v < 64 → unit ≤ 512 → key ≡ part_metric soft from k v * 16384 + v * unit → key < 2 ^ 29
keys_small soft from k v unit key room all few below small e =
    let most : part_metric soft from k v ≤ 4095 * k = part_within 4095 soft from k v room all in
    let last : v * unit ≤ 64 * unit = mul-le-mul_right unit (omega arith) in
    omega arith

pub lane_keys_small : (soft : List ℤ) (from k x key : ℕ) → from + k ≤ length soft → AllWithin 4095 soft → k ≤ 8 → key ≡ part_metric soft from k x * 16384 → key < 2 ^ 29
lane_keys_small soft from k x key room all few e =
    let most : part_metric soft from k x ≤ 4095 * k = part_within 4095 soft from k x room all in
    omega arith

zero_lane : (j : ℕ) → slice_index (0 ∷ 0 ∷ 0 ∷ 0 ∷ 0 ∷ 0 ∷ 0 ∷ 0 ∷ []) j ≡ 0
zero_lane zero = refl
zero_lane (suc zero) = refl
zero_lane (suc (suc zero)) = refl
zero_lane (suc (suc (suc zero))) = refl
zero_lane (suc (suc (suc (suc zero)))) = refl
zero_lane (suc (suc (suc (suc (suc zero))))) = refl
zero_lane (suc (suc (suc (suc (suc (suc zero)))))) = refl
zero_lane (suc (suc (suc (suc (suc (suc (suc zero))))))) = refl
zero_lane (suc (suc (suc (suc (suc (suc (suc (suc j)))))))) = refl

-- the table of no bits has one entry
pub started_lanes : (soft : List ℤ) (from place : ℕ) (sums : List ℕ) (keys : List (List ℕ)) → length keys ≡ 256 → AreLanes keys
    → AreLanes (slice_set keys 0 (0 ∷ 0 ∷ 0 ∷ 0 ∷ 0 ∷ 0 ∷ 0 ∷ 0 ∷ []))
    × ((v j : ℕ) → v < 1 → j < 8 → lane (slice_set keys 0 (0 ∷ 0 ∷ 0 ∷ 0 ∷ 0 ∷ 0 ∷ 0 ∷ 0 ∷ [])) v j ≡ part_metric soft from 0 (bit_xor v (slice_index sums j / 2 ^ place)) * 16384)
started_lanes soft from place sums keys long lanes = (all, first)
  where
    set : get_or (slice_set keys 0 (0 ∷ 0 ∷ 0 ∷ 0 ∷ 0 ∷ 0 ∷ 0 ∷ 0 ∷ [])) 0 [] ≡ 0 ∷ 0 ∷ 0 ∷ 0 ∷ 0 ∷ 0 ∷ 0 ∷ 0 ∷ []
    set = get_or-set_same keys 0 (0 ∷ 0 ∷ 0 ∷ 0 ∷ 0 ∷ 0 ∷ 0 ∷ 0 ∷ []) [] (omega arith)

    all : AreLanes (slice_set keys 0 (0 ∷ 0 ∷ 0 ∷ 0 ∷ 0 ∷ 0 ∷ 0 ∷ 0 ∷ []))
    all v h = elim (cases_eq v 0) [
      | inl e ↦ ap (λ k. length (get_or (slice_set keys 0 (0 ∷ 0 ∷ 0 ∷ 0 ∷ 0 ∷ 0 ∷ 0 ∷ 0 ∷ [])) k [])) e ∙ ap length set
      | inr ne ↦ ap length (get_or-set_other keys 0 v (0 ∷ 0 ∷ 0 ∷ 0 ∷ 0 ∷ 0 ∷ 0 ∷ 0 ∷ []) [] ne) ∙ lanes v h
    ]

    first : (v j : ℕ) → v < 1 → j < 8 → lane (slice_set keys 0 (0 ∷ 0 ∷ 0 ∷ 0 ∷ 0 ∷ 0 ∷ 0 ∷ 0 ∷ [])) v j ≡ part_metric soft from 0 (bit_xor v (slice_index sums j / 2 ^ place)) * 16384
    first v j h l =
        let e : v ≡ 0 = omega arith in
        let none : part_metric soft from 0 (bit_xor v (slice_index sums j / 2 ^ place)) ≡ 0 = part_none soft from (bit_xor v (slice_index sums j / 2 ^ place)) in
        ap (λ k. lane (slice_set keys 0 (0 ∷ 0 ∷ 0 ∷ 0 ∷ 0 ∷ 0 ∷ 0 ∷ 0 ∷ [])) k j) e ∙ ap (λ x. slice_index x j) set ∙ zero_lane j ∙ omega arith

-- the entries of a table by lanes below a place are doubled, and those from there on stand as before
pub record GrownLanes (old now : List (List ℕ)) (size : ℕ) (zeros ones : List ℕ) (at : ℕ) : Type 0 where
  pub long : length now ≡ 256
  pub lanes : AreLanes now
  pub first : (k j : ℕ) → k < at → j < 8 → lane now k j ≡ lane old k j + slice_index zeros j
  pub second : (k j : ℕ) → k < at → j < 8 → lane now (size + k) j ≡ lane old k j + slice_index ones j
  pub left : (k j : ℕ) → at ≤ k → k < size → j < 8 → lane now k j ≡ lane old k j

module _ (old now : List (List ℕ)) (size at : ℕ) (zeros ones a b : List ℕ) (room : size + size ≤ 256) (below : at < size) (g : GrownLanes old now size zeros ones at)
    (long_a : length a ≡ 8) (long_b : length b ≡ 8)
    (value_a : (j : ℕ) → j < 8 → slice_index a j ≡ lane now at j + slice_index ones j)
    (value_b : (j : ℕ) → j < 8 → slice_index b j ≡ lane now at j + slice_index zeros j) where
  long_next : length (slice_set (slice_set now (size + at) a) at b) ≡ 256
  long_next = length-set (slice_set now (size + at) a) at b ∙ length-set now (size + at) a ∙ g.long

  at_place : get_or (slice_set (slice_set now (size + at) a) at b) at [] ≡ b
  at_place =
      let size_is : length (slice_set now (size + at) a) ≡ 256 = length-set now (size + at) a ∙ g.long in
      get_or-set_same (slice_set now (size + at) a) at b [] (omega arith)

  at_second : get_or (slice_set (slice_set now (size + at) a) at b) (size + at) [] ≡ a
  at_second =
      let apart : size + at ≢ at = λ e. absurd (omega arith) in
      let size_is : length now ≡ 256 = g.long in
      get_or-set_other (slice_set now (size + at) a) at (size + at) b [] apart ∙ get_or-set_same now (size + at) a [] (omega arith)

  at_other : (k : ℕ) → k ≢ at → k ≢ size + at → get_or (slice_set (slice_set now (size + at) a) at b) k [] ≡ get_or now k []
  at_other k ne other = get_or-set_other (slice_set now (size + at) a) at k b [] ne ∙ get_or-set_other now (size + at) k a [] other

  lanes_next : AreLanes (slice_set (slice_set now (size + at) a) at b)
  lanes_next v h = elim (cases_eq v at) [
    | inl e ↦ ap (λ k. length (get_or (slice_set (slice_set now (size + at) a) at b) k [])) e ∙ ap length at_place ∙ long_b
    | inr ne ↦ elim (cases_eq v (size + at)) [
      | inl e ↦ ap (λ k. length (get_or (slice_set (slice_set now (size + at) a) at b) k [])) e ∙ ap length at_second ∙ long_a
      | inr other ↦ ap length (at_other v ne other) ∙ g.lanes v h
    ]
  ]

  first_next : (k j : ℕ) → k < at + 1 → j < 8 → lane (slice_set (slice_set now (size + at) a) at b) k j ≡ lane old k j + slice_index zeros j
  first_next k j h l = elim (cases_eq k at) [
    | inl e ↦
        let stood : lane now at j ≡ lane old at j = g.left at j (omega arith) below l in
        ap (λ i. lane (slice_set (slice_set now (size + at) a) at b) i j) e ∙ ap (λ x. slice_index x j) at_place ∙ value_b j l
        ∙ ap (λ x. x + slice_index zeros j) (stood ∙ ap (λ i. lane old i j) (sym e))
    | inr ne ↦
        let other : k ≢ size + at = λ e. absurd (omega arith) in
        let lower : k < at = omega (arith, ne) in
        ap (λ x. slice_index x j) (at_other k ne other) ∙ g.first k j lower l
  ]

  second_next : (k j : ℕ) → k < at + 1 → j < 8 → lane (slice_set (slice_set now (size + at) a) at b) (size + k) j ≡ lane old k j + slice_index ones j
  second_next k j h l = elim (cases_eq k at) [
    | inl e ↦
        let stood : lane now at j ≡ lane old at j = g.left at j (omega arith) below l in
        ap (λ i. lane (slice_set (slice_set now (size + at) a) at b) (size + i) j) e ∙ ap (λ x. slice_index x j) at_second ∙ value_a j l
        ∙ ap (λ x. x + slice_index ones j) (stood ∙ ap (λ i. lane old i j) (sym e))
    | inr ne ↦
        let apart : size + k ≢ at = λ e. absurd (omega arith) in
        let other : size + k ≢ size + at = λ e. ne (omega arith) in
        let lower : k < at = omega (arith, ne) in
        ap (λ x. slice_index x j) (at_other (size + k) apart other) ∙ g.second k j lower l
  ]

  left_next : (k j : ℕ) → at + 1 ≤ k → k < size → j < 8 → lane (slice_set (slice_set now (size + at) a) at b) k j ≡ lane old k j
  left_next k j h below l =
      let apart : k ≢ at = λ e. absurd (omega arith) in
      let other : k ≢ size + at = λ e. absurd (omega arith) in
      ap (λ x. slice_index x j) (at_other k apart other) ∙ g.left k j (omega arith) below l

  pub grown_lanes : GrownLanes old (slice_set (slice_set now (size + at) a) at b) size zeros ones (at + 1)
  grown_lanes = record { long = long_next; lanes = lanes_next; first = first_next; second = second_next; left = left_next }
