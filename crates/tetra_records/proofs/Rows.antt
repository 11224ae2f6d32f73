-- Rows of potentials that are written as bytes, two for each entry, a row of 32 bytes at once.
use Prim.Native.Nat.{zero, suc}
use Rattle.std.proofs.Common.{◌≡◌, ℕ, ◌+◌, ◌-◌, ◌*◌, ◌/◌, ◌%◌, ◌^◌, ◌<◌, ◌≤◌, inl, inr, List, [], ◌∷◌, ◌++◌, length, take, get_or, map, arith, refl, ap, sym, ◌∙◌}
use Rattle.std.proofs.Math.ListN.{get_or-append}
use Rattle.std.proofs.lemmas.Bool.{cases_lt}
use Rattle.std.proofs.lemmas.List.{ext_get_or, flat_map_more, take_more}
use Rattle.std.proofs.lemmas.List.FromFn.{get_or-map-range_with_len}
use Rattle.std.proofs.lemmas.Simd.{Each1-from_get_or, get_or_narrower}
use Rattle.std.specs.List.{flat_map}
use lib.Lanes.{number_l, digits_l}
use Rattle.tetra_records.specs.Readings.{two_bytes, row_bytes}

-- of each four bytes the two low ones, turned round
abbrev pub turned : List ℕ → List ℕ
turned bytes =
    map (λ k. get_or (bytes ++ bytes) k 0)
    (
    1 ∷ 0 ∷ 5 ∷ 4 ∷ 9 ∷ 8 ∷ 13 ∷ 12 ∷ 17 ∷ 16 ∷ 21 ∷ 20 ∷ 25 ∷ 24 ∷ 29 ∷ 28 ∷ 33 ∷ 32 ∷ 37 ∷ 36 ∷ 41 ∷ 40 ∷ 45 ∷ 44 ∷ 49 ∷ 48 ∷ 53 ∷ 52 ∷ 57 ∷ 56 ∷ 61 ∷ 60 ∷ []
    )

turned_at : (bytes : List ℕ) → length bytes ≡ 64 → (n : ℕ) → n < 32 → get_or (turned bytes) n 0 ≡ get_or bytes (2 * n + 1 - 3 * (n % 2)) 0
turned_at bytes long n lt =
    get_or-map-range_with_len (λ n. get_or (bytes ++ bytes) (2 * n + 1 - 3 * (n % 2)) 0) 0 32 n n 0 lt (omega arith)
    ∙ get_or-append bytes bytes 0 (2 * n + 1 - 3 * (n % 2)) (omega arith)

length-two : (row : List ℕ) → length (flat_map two_bytes row) ≡ 2 * length row
length-two [] = refl
length-two (x ∷ row) = let rest = length-two row in omega (arith, rest)

pub length-row : (row : List ℕ) → length row ≡ 16 → length (row_bytes row) ≡ 32
unfolding row_bytes
length-row row sixteen = let long = length-two row in omega (arith, long, sixteen)

high_at : (row : List ℕ) (s : ℕ) → s < length row → get_or (flat_map two_bytes row) (2 * s) 0 ≡ get_or row s 0 / 256
high_at [] s h = absurd (omega (arith, h))
high_at (x ∷ row) zero h = refl
high_at (x ∷ row) (suc s) h =
    let two : 2 * suc s ≡ suc (suc (2 * s)) = omega arith in
    ap (λ n. get_or (flat_map two_bytes (x ∷ row)) n 0) two ∙ high_at row s (omega (arith, h))

low_at : (row : List ℕ) (s : ℕ) → s < length row → get_or (flat_map two_bytes row) (2 * s + 1) 0 ≡ get_or row s 0 % 256
low_at [] s h = absurd (omega (arith, h))
low_at (x ∷ row) zero h = refl
low_at (x ∷ row) (suc s) h =
    let two : 2 * suc s + 1 ≡ suc (suc (2 * s + 1)) = omega arith in
    ap (λ n. get_or (flat_map two_bytes (x ∷ row)) n 0) two ∙ low_at row s (omega (arith, h))

module _ (row : List ℕ) (sixteen : length row ≡ 16) (small : (s : ℕ) → get_or row s 0 ≤ 65535) where
  -- the bytes of its entries, four for each, the lowest first
  abbrev fours : List ℕ
  fours = digits_l 256 64 (number_l 4294967296 row)

  four_at : (s i : ℕ) → s < 16 → i < 4 → get_or fours (4 * s + i) 0 ≡ get_or row s 0 / 256 ^ i % 256
  four_at s i hs hi =
      get_or_narrower 4294967296 4 256 64 row s i refl
      (Each1-from_get_or (λ x. x < 4294967296) row 0 (λ k h. let le : get_or row k 0 ≤ 65535 = small k in omega (arith, le)))
      hi (omega (arith, hs, hi))

  turned_high : (s : ℕ) → s < 16 → get_or (turned fours) (2 * s) 0 ≡ get_or row s 0 / 256
  turned_high s h =
      let le : get_or row s 0 ≤ 65535 = small s in
      let place : 2 * (2 * s) + 1 - 3 * (2 * s % 2) ≡ 4 * s + 1 = omega arith in
      let byte : get_or fours (4 * s + 1) 0 ≡ get_or row s 0 / 256 % 256 = four_at s 1 h (omega arith) in
      let below : get_or row s 0 / 256 % 256 ≡ get_or row s 0 / 256 = omega (arith, le) in
      turned_at fours refl (2 * s) (omega (arith, h)) ∙ ap (λ n. get_or fours n 0) place ∙ byte ∙ below

  turned_low : (s : ℕ) → s < 16 → get_or (turned fours) (2 * s + 1) 0 ≡ get_or row s 0 % 256
  turned_low s h =
      let place : 2 * (2 * s + 1) + 1 - 3 * ((2 * s + 1) % 2) ≡ 4 * s + 0 = omega arith in
      let byte : get_or fours (4 * s + 0) 0 ≡ get_or row s 0 / 1 % 256 = four_at s 0 h (omega arith) in
      let whole : get_or row s 0 / 1 % 256 ≡ get_or row s 0 % 256 = omega arith in
      turned_at fours refl (2 * s + 1) (omega (arith, h)) ∙ ap (λ n. get_or fours n 0) place ∙ byte ∙ whole

  -- they are the bytes of the row
  pub turned_is : turned fours ≡ row_bytes row
  unfolding row_bytes
  turned_is =
      ext_get_or 0 (turned fours) (flat_map two_bytes row) (let long = length-two row in omega (arith, long, sixteen))
      (λ n h.
      let lt : n < 32 = h in
      let within : n / 2 < 16 = omega (arith, lt) in
      let there : n / 2 < length row = omega (arith, within, sixteen) in
      elim (cases_lt (n % 2) 1) [
        | inl l ↦
            let e : n ≡ 2 * (n / 2) = omega (arith, l) in
            ap (λ n. get_or (turned fours) n 0) e ∙ turned_high (n / 2) within ∙ sym (high_at row (n / 2) there) ∙ ap (λ n. get_or (flat_map two_bytes row) n 0) (sym e)
        | inr g ↦
            let e : n ≡ 2 * (n / 2) + 1 = omega (arith, g) in
            ap (λ n. get_or (turned fours) n 0) e ∙ turned_low (n / 2) within ∙ sym (low_at row (n / 2) there) ∙ ap (λ n. get_or (flat_map two_bytes row) n 0) (sym e)
      ])

-- one more row of a table is written
pub rows_more : (start old new : List ℕ) (rows : List (List ℕ)) (t : ℕ) (row : List ℕ) → row ≡ get_or rows t [] → t < length rows
    → old ≡ start ++ flat_map row_bytes (take t rows) → new ≡ old ++ row_bytes row → new ≡ start ++ flat_map row_bytes (take (t + 1) rows)
rows_more start old new rows t row e h o n =
    n ∙ ap (λ xs. xs ++ row_bytes row) o ∙ flat_map_more row_bytes start (take t rows) row
    ∙ ap (λ xs. start ++ flat_map row_bytes xs) (ap (λ r. take t rows ++ r ∷ []) e ∙ sym (take_more rows t [] h))
