-- The keys of whole messages, and the first-least message by the least of them.
use Rattle.std.proofs.Common.{◌≡◌, ℕ, ◌+◌, ◌*◌, ◌/◌, ◌%◌, ◌^◌, ◌<◌, ◌≤◌, List, length, get_or, arith, refl, ap, sym, ◌∙◌}
use Rattle.std.specs.Prelude.{ℤ, slice_index}
use Rattle.std.proofs.lemmas.Nat.{xor_shr, xor_mod}
use Rattle.std.specs.Int.Bits.{bit_xor}
use Rattle.tetra_bits.specs.Digits.{digits}
use Rattle.std.proofs.lemmas.Int.{ints}
use Rattle.tetra_bits.specs.Least.{FirstLeast}
use Rattle.tetra_bits.specs.Soft.{IsSoft, AllSoft, AllWithin}
use Rattle.tetra_rm.specs.Code.{rows_sum, access_metric}
use Rattle.tetra_rm.specs.Search.{IsLeastBelow, IsPart, IsLaneKeys, part_metric, key_of_number, metric_of_number, key_in_middle, lane}
use Rattle.tetra_rm.specs.declared.searching.Part.{Part}
use Rattle.tetra_rm.specs.lemmas.Numbers.{number_is_first}
use Rattle.tetra_rm.proofs.Parts.{metric_parts, part_low}
use Rattle.tetra_rm.proofs.SumsOfParts.{sum_by_parts}

module _ (rows : List ℕ) (soft : List ℤ) (size : length soft ≡ 30) (front middle last : Part)
    (is_front : IsPart rows soft 0 5 front) (is_middle : IsPart rows soft 5 6 middle) (is_last : IsPart rows soft 11 3 last)
    (first second : List (List ℕ)) (is_first : IsLaneKeys soft 14 8 last.sums 8 first) (is_second : IsLaneKeys soft 22 8 last.sums 0 second)
    (h m j : ℕ) (small_h : h < 32) (small_m : m < 64) (small_j : j < 8) (fits : bit_xor (slice_index front.sums h) (slice_index middle.sums m) < 65536) where
  sum_in_front : bit_xor (slice_index front.sums h) (slice_index middle.sums m) ≡ rows_sum rows (digits 14 ((h * 2 ^ 6 + m) * 2 ^ 3)) 14
  sum_in_front =
      let a : slice_index front.sums h ≡ rows_sum rows (digits 14 (h * 2 ^ 9)) 14 = is_front.sums h small_h in
      let b : slice_index middle.sums m ≡ rows_sum rows (digits 14 (m * 2 ^ 3)) 14 = is_middle.sums m small_m in
      let number : h * 2 ^ 9 + m * 2 ^ 3 ≡ (h * 2 ^ 6 + m) * 2 ^ 3 = omega arith in
      ap (λ x. bit_xor x (slice_index middle.sums m)) a ∙ ap (bit_xor (rows_sum rows (digits 14 (h * 2 ^ 9)) 14)) b
      ∙ sym (sum_by_parts rows 9 h (m * 2 ^ 3) (omega arith) (omega arith)) ∙ ap (λ x. rows_sum rows (digits 14 x) 14) number

  sum_is : bit_xor (bit_xor (slice_index front.sums h) (slice_index middle.sums m)) (slice_index last.sums j) ≡ rows_sum rows (digits 14 ((h * 2 ^ 6 + m) * 2 ^ 3 + j)) 14
  sum_is =
      let plain : j * 2 ^ 0 ≡ j = omega arith in
      let c : slice_index last.sums j ≡ rows_sum rows (digits 14 (j * 2 ^ 0)) 14 = is_last.sums j small_j in
      ap (λ x. bit_xor x (slice_index last.sums j)) sum_in_front
      ∙ ap (bit_xor (rows_sum rows (digits 14 ((h * 2 ^ 6 + m) * 2 ^ 3)) 14)) (c ∙ ap (λ x. rows_sum rows (digits 14 x) 14) plain)
      ∙ sym (sum_by_parts rows 3 (h * 2 ^ 6 + m) j (omega arith) small_j)

  first_lane : lane first (bit_xor (slice_index front.sums h) (slice_index middle.sums m) / 256) j
      ≡ part_metric soft 14 8 (bit_xor (bit_xor (slice_index front.sums h) (slice_index middle.sums m)) (slice_index last.sums j) / 256) * 16384
  first_lane =
      is_first (bit_xor (slice_index front.sums h) (slice_index middle.sums m) / 256) j (omega arith) small_j
      ∙ ap (λ x. part_metric soft 14 8 x * 16384) (sym (xor_shr (bit_xor (slice_index front.sums h) (slice_index middle.sums m)) (slice_index last.sums j) 8))

  second_lane : lane second (bit_xor (slice_index front.sums h) (slice_index middle.sums m) % 256) j
      ≡ part_metric soft 22 8 (bit_xor (bit_xor (slice_index front.sums h) (slice_index middle.sums m)) (slice_index last.sums j) % 256) * 16384
  second_lane =
      let plain : slice_index last.sums j / 2 ^ 0 ≡ slice_index last.sums j = omega arith in
      let again : bit_xor (slice_index front.sums h) (slice_index middle.sums m) % 256 % 2 ^ 8 ≡ bit_xor (slice_index front.sums h) (slice_index middle.sums m) % 2 ^ 8 = omega arith in
      let low : bit_xor (bit_xor (slice_index front.sums h) (slice_index middle.sums m) % 256) (slice_index last.sums j) % 2 ^ 8
      ≡ bit_xor (bit_xor (slice_index front.sums h) (slice_index middle.sums m)) (slice_index last.sums j) % 2 ^ 8 =
      xor_mod (bit_xor (slice_index front.sums h) (slice_index middle.sums m) % 256) (slice_index last.sums j) 8
      ∙ ap (λ x. bit_xor x (slice_index last.sums j % 2 ^ 8)) again
      ∙ sym (xor_mod (bit_xor (slice_index front.sums h) (slice_index middle.sums m)) (slice_index last.sums j) 8) in
      let twice : bit_xor (bit_xor (slice_index front.sums h) (slice_index middle.sums m)) (slice_index last.sums j) % 2 ^ 8
      ≡ bit_xor (bit_xor (slice_index front.sums h) (slice_index middle.sums m)) (slice_index last.sums j) % 256 % 2 ^ 8 = omega arith in
      is_second (bit_xor (slice_index front.sums h) (slice_index middle.sums m) % 256) j (omega arith) small_j
      ∙ ap (λ x. part_metric soft 22 8 (bit_xor (bit_xor (slice_index front.sums h) (slice_index middle.sums m) % 256) x) * 16384) plain
      ∙ ap (λ x. x * 16384) (part_low soft 22 8 (bit_xor (bit_xor (slice_index front.sums h) (slice_index middle.sums m) % 256) (slice_index last.sums j))
      (bit_xor (bit_xor (slice_index front.sums h) (slice_index middle.sums m)) (slice_index last.sums j) % 256) (low ∙ twice))

  -- the key of a message by its parts
  pub key_by_parts : key_in_middle first second middle (slice_index front.sums h) j m + slice_index front.keys h + slice_index last.keys j ≡ key_of_number rows soft ((h * 64 + m) * 8 + j)
  unfolding key_in_middle key_of_number metric_of_number
  key_by_parts =
      let metric : access_metric rows soft (digits 14 ((h * 64 + m) * 8 + j))
      ≡ part_metric soft 0 5 h + part_metric soft 5 6 m + part_metric soft 11 3 j
      + part_metric soft 14 8 (bit_xor (bit_xor (slice_index front.sums h) (slice_index middle.sums m)) (slice_index last.sums j) / 256)
      + part_metric soft 22 8 (bit_xor (bit_xor (slice_index front.sums h) (slice_index middle.sums m)) (slice_index last.sums j) % 256) =
      metric_parts rows soft size h m j (bit_xor (bit_xor (slice_index front.sums h) (slice_index middle.sums m)) (slice_index last.sums j)) small_m small_j sum_is in
      let a : slice_index front.keys h ≡ part_metric soft 0 5 h * 16384 + h * 512 = is_front.keys h small_h in
      let b : slice_index middle.keys m ≡ part_metric soft 5 6 m * 16384 + m * 8 = is_middle.keys m small_m in
      let c : slice_index last.keys j ≡ part_metric soft 11 3 j * 16384 + j * 1 = is_last.keys j small_j in
      omega (arith, metric, a, b, c, first_lane, second_lane)

module _ (rows : List ℕ) (soft : List ℤ) (key : ℕ) (least : IsLeastBelow (key_of_number rows soft) 16384 key) where
  place_is : (key % 16384 ≡ least.place) × (key / 16384 ≡ metric_of_number rows soft least.place)
  unfolding key_of_number
  place_is =
      let reached : key ≡ metric_of_number rows soft least.place * 16384 + least.place = least.reached in
      let there : least.place < 16384 = least.there in
      (omega arith, omega arith)

  pub least_metric : key / 16384 ≡ access_metric rows soft (digits 14 (key % 16384))
  unfolding metric_of_number
  least_metric = place_is.1 ∙ ap (λ m. access_metric rows soft (digits 14 m)) (sym place_is.0)

  not_more : (j : ℕ) → j < 16384 → key / 16384 ≤ metric_of_number rows soft j
  unfolding key_of_number
  not_more j h = let most : key ≤ metric_of_number rows soft j * 16384 + j = least.least j h in omega arith

  less_before : (j : ℕ) → j < key % 16384 → key / 16384 < metric_of_number rows soft j
  unfolding key_of_number
  less_before j h = let most : key ≤ metric_of_number rows soft j * 16384 + j = least.least j (omega arith) in omega arith

  pub least_is_first : FirstLeast 14 (access_metric rows soft) (digits 14 (key % 16384))
  unfolding metric_of_number
  least_is_first = number_is_first 14 (access_metric rows soft) (key % 16384)
      (λ j h. let most : key / 16384 ≤ access_metric rows soft (digits 14 j) = not_more j h in omega (arith, least_metric))
      (λ j h. let less : key / 16384 < access_metric rows soft (digits 14 j) = less_before j h in omega (arith, least_metric))

-- soft values are so small that keys fit 32 bits
pub soft_fit : (soft : List ℤ) → AllSoft soft → AllWithin 4095 soft
soft_fit soft all = λ k d h. let here : IsSoft (get_or soft k d) = all k d h in (omega (arith, ints, here.0), omega (arith, ints, here.1))

-- a key by the metric
pub key_is : (rows : List ℕ) (soft : List ℤ) (m : ℕ) → access_metric rows soft (digits 14 m) * 16384 + m ≡ key_of_number rows soft m
unfolding key_of_number metric_of_number
key_is rows soft m = refl
