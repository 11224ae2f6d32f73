-- Tables that are read row by row, a row of 32 bytes at once.
use Prim.Native.Nat.{suc}
use Rattle.std.proofs.Common.{◌≡◌, ℕ, ◌+◌, ◌-◌, ◌*◌, ◌%◌, ◌<◌, List, [], ◌∷◌, ◌++◌, length, get_or, map, take, arith, refl, ap, ◌∙◌}
use Rattle.std.proofs.Math.ListN.{get_or-append}
use Rattle.std.proofs.Math.Seq.{drop-cons}
use Rattle.std.proofs.lemmas.List.FromFn.{get_or-map-range_with_len}
use Rattle.std.proofs.lemmas.Simd.{Each1-get_or, Each1-from_get_or, get_or_wider, get_or-chunk}
use lib.Lanes.{Each1, chunk, number_l, digits_l}
use Rattle.tetra_bits.specs.Numbered.{is_numbered, length-numbered}
use Rattle.tetra_audit.specs.Claims.{number_at, claimed_entry, claimed_row, claimed_table}

-- the bytes of each number turned round
abbrev pub turned : List ℕ → List ℕ
turned bytes =
    map (λ k. get_or (bytes ++ bytes) k 0)
    (
    1 ∷ 0 ∷ 3 ∷ 2 ∷ 5 ∷ 4 ∷ 7 ∷ 6 ∷ 9 ∷ 8 ∷ 11 ∷ 10 ∷ 13 ∷ 12 ∷ 15 ∷ 14 ∷ 17 ∷ 16 ∷ 19 ∷ 18 ∷ 21 ∷ 20 ∷ 23 ∷ 22 ∷ 25 ∷ 24 ∷ 27 ∷ 26 ∷ 29 ∷ 28 ∷ 31 ∷ 30 ∷ []
    )

module _ (bytes : List ℕ) (long : length bytes ≡ 32) where
  turned_at : (n : ℕ) → n < 32 → get_or (turned bytes) n 0 ≡ get_or bytes (n + 1 - 2 * (n % 2)) 0
  turned_at n lt =
      get_or-map-range_with_len (λ n. get_or (bytes ++ bytes) (n + 1 - 2 * (n % 2)) 0) 0 32 n n 0 lt (omega arith)
      ∙ get_or-append bytes bytes 0 (n + 1 - 2 * (n % 2)) (omega arith)

  turned_small : Each1 (λ k. k < 256) bytes → Each1 (λ k. k < 256) (turned bytes)
  turned_small small =
      Each1-from_get_or (λ k. k < 256) (turned bytes) 0
      (λ i h. let inside : i < 32 = h in
      let e = turned_at i inside in
      let lt : get_or bytes (i + 1 - 2 * (i % 2)) 0 < 256 = Each1-get_or (λ k. k < 256) bytes (i + 1 - 2 * (i % 2)) 0 (omega arith) small in
      omega (arith, e, lt))

  -- the number of two bytes
  pub number_of : Each1 (λ k. k < 256) bytes → (s : ℕ) → s < 16 → get_or (digits_l 65536 16 (number_l 256 (turned bytes))) s 0 ≡ number_at bytes s
  unfolding number_at
  number_of small s lt =
      let low : get_or (turned bytes) (2 * s) 0 ≡ get_or bytes (2 * s + 1) 0 =
      turned_at (2 * s) (omega arith) ∙ ap (λ n. get_or bytes n 0) (omega arith) in
      let high : get_or (turned bytes) (2 * s + 1) 0 ≡ get_or bytes (2 * s) 0 =
      turned_at (2 * s + 1) (omega arith) ∙ ap (λ n. get_or bytes n 0) (omega arith) in
      get_or_wider 256 2 65536 16 (turned bytes) s refl (turned_small small) lt
      ∙ ap (number_l 256) (two_of (turned bytes) (2 * s) (omega arith))
      ∙ omega (arith, low, high)
    where
      two_of : (xs : List ℕ) (i : ℕ) → i + 1 < length xs → chunk i 2 xs ≡ get_or xs i 0 ∷ get_or xs (i + 1) 0 ∷ []
      two_of xs i h =
          ap (take 2) (drop-cons xs i 0 (omega arith) ∙ ap (λ l. get_or xs i 0 ∷ l) (drop-cons xs (suc i) 0 (omega arith)))
          ∙ ap (λ n. get_or xs i 0 ∷ get_or xs n 0 ∷ []) (omega arith)

-- a row is made of the numbers of its bytes
pub row_is : (bytes : List ℕ) (t : ℕ) (row : List ℕ) → length row ≡ 16 → ((s : ℕ) → s < 16 → get_or row s 0 ≡ number_at (chunk (32 * t) 32 bytes) s) → row ≡ claimed_row bytes (t + 1)
unfolding claimed_row claimed_entry number_at
row_is bytes t row size each =
    is_numbered (claimed_entry bytes (t + 1)) 16 0 row size
    (λ k h.
    let high : get_or (chunk (32 * t) 32 bytes) (2 * k) 0 ≡ get_or bytes (2 * (16 * (t + 1 - 1) + (k + 1 - 1))) 0 =
    get_or-chunk (32 * t) 32 bytes (2 * k) 0 (omega arith) ∙ ap (λ n. get_or bytes n 0) (omega arith) in
    let low : get_or (chunk (32 * t) 32 bytes) (2 * k + 1) 0 ≡ get_or bytes (2 * (16 * (t + 1 - 1) + (k + 1 - 1)) + 1) 0 =
    get_or-chunk (32 * t) 32 bytes (2 * k + 1) 0 (omega arith) ∙ ap (λ n. get_or bytes n 0) (omega arith) in
    omega (arith, each k h, high, low))

pub length-claimed_table : (bytes : List ℕ) (rows : ℕ) → length (claimed_table bytes rows) ≡ rows
unfolding claimed_table
length-claimed_table bytes rows = length-numbered (claimed_row bytes) rows
