-- The key of a message by its tables.
use Rattle.std.proofs.Common.{◌≡◌, ℕ, ◌+◌, ◌*◌, ◌/◌, ◌%◌, ◌<◌, ◌≤◌, List, get_or, arith, refl, ap}
use Rattle.tetra_rm.specs.Search.{key_in_middle, key_by_tables}
use Rattle.tetra_rm.specs.declared.searching.Part.{Part}

module _ (first second : List (List ℕ)) (front middle last : Part) (h : ℕ) where
  pub key_is_by_parts : (m j : ℕ) → m < 64 → j < 8
      → key_by_tables first second front middle last (h * 512 + (m * 8 + j)) ≡ key_in_middle first second middle (get_or front.sums h 0) j m + get_or front.keys h 0 + get_or last.keys j 0
  unfolding key_by_tables
  key_is_by_parts m j small_m small_j =
      let a : (h * 512 + (m * 8 + j)) / 512 ≡ h = omega arith in
      let b : (h * 512 + (m * 8 + j)) / 8 % 64 ≡ m = omega arith in
      let c : (h * 512 + (m * 8 + j)) % 8 ≡ j = omega arith in
      rw (a, b, c) refl

  -- it is no less than what its bits in front add
  pub front_is_below : (v : ℕ) → v < 512 → get_or front.keys h 0 ≤ key_by_tables first second front middle last (h * 512 + v)
  front_is_below v small =
      let parts : v / 8 * 8 + v % 8 ≡ v = omega arith in
      let at : key_by_tables first second front middle last (h * 512 + (v / 8 * 8 + v % 8)) ≡ key_by_tables first second front middle last (h * 512 + v) =
      ap (λ w. key_by_tables first second front middle last (h * 512 + w)) parts in
      let here = key_is_by_parts (v / 8) (v % 8) (omega arith) (omega arith) in
      omega (arith, at, here)
