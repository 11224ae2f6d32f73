-- Records that are spelled, read back.
use Prim.Native.Nat.{zero, suc}
use Rattle.std.proofs.Common.{◌≡◌, ℕ, ◌+◌, ◌-◌, ◌*◌, ◌/◌, ◌%◌, ◌<◌, ◌≤◌, List, [], ◌∷◌, ◌++◌, length, take, drop, get_or, arith, refl, sym, ap, ◌∙◌, length-append}
use Rattle.std.proofs.Math.Seq.{take-append_seam, drop-append_seam}
use Rattle.std.proofs.lemmas.List.{ext_get_or, get_or_append_left, get_or-append-add, take-append-drop, drop-drop}
use Rattle.std.specs.List.{All, flat_map}
use Rattle.tetra_bits.specs.Numbered.{numbered, is_numbered, length-numbered, get_or-numbered}
use Rattle.tetra_records.specs.Readings.{two_bytes, row_bytes, table_bytes}
use Rattle.tetra_audit.specs.Claims.{number_at, claimed_entry, claimed_row, claimed_table}

-- pieces of one length, one behind the other
module _ {X : Type 0} (f : X → List ℕ) (c : ℕ) where
  pub flat_length : (xs : List X) → All (λ x. length (f x) ≡ c) xs → length (flat_map f xs) ≡ c * length xs
  flat_length [] all = omega arith
  flat_length (x ∷ xs) all =
      let here : length (f x) ≡ c = all 0 x (omega arith) in
      let rest : length (flat_map f xs) ≡ c * length xs = flat_length xs (λ k d h. all (suc k) d (omega arith)) in
      omega (arith, length-append (f x) (flat_map f xs))

  pub flat_at : (xs : List X) → All (λ x. length (f x) ≡ c) xs → (i j : ℕ) (e : X) → i < length xs → j < c → get_or (flat_map f xs) (c * i + j) 0 ≡ get_or (f (get_or xs i e)) j 0
  flat_at [] all i j e h g = absurd (omega arith)
  flat_at (x ∷ xs) all zero j e h g =
      let here : length (f x) ≡ c = all 0 x (omega arith) in
      let at : c * 0 + j ≡ j = omega arith in
      ap (λ n. get_or (f x ++ flat_map f xs) n 0) at ∙ get_or_append_left (f x) (flat_map f xs) 0 j (omega arith)
  flat_at (x ∷ xs) all (suc i) j e h g =
      let here : length (f x) ≡ c = all 0 x (omega arith) in
      let at : c * suc i + j ≡ length (f x) + (c * i + j) = omega arith in
      ap (λ n. get_or (f x ++ flat_map f xs) n 0) at ∙ (get_or-append-add (f x) (flat_map f xs) (c * i + j) 0 ∙ flat_at xs (λ k d lt. all (suc k) d (omega arith)) i j e (omega arith) g)

two_long : (row : List ℕ) → All (λ n. length (two_bytes n) ≡ 2) row
two_long row = λ k d h. refl

pub length-row_bytes : (row : List ℕ) → length (row_bytes row) ≡ 2 * length row
unfolding row_bytes
length-row_bytes row = flat_length two_bytes 2 row (two_long row)

row_at : (row : List ℕ) (j b : ℕ) → j < length row → b < 2 → get_or (row_bytes row) (2 * j + b) 0 ≡ get_or (two_bytes (get_or row j 0)) b 0
unfolding row_bytes
row_at row j b h g = flat_at two_bytes 2 row (two_long row) j b 0 h g

-- rows of 16 entries
rows_long : (table : List (List ℕ)) → All (λ row. length row ≡ 16) table → All (λ row. length (row_bytes row) ≡ 32) table
rows_long table all = λ k d h. omega (arith, length-row_bytes (get_or table k d), all k d h)

pub length-table_bytes : (table : List (List ℕ)) → All (λ row. length row ≡ 16) table → length (table_bytes table) ≡ 32 * length table
unfolding table_bytes
length-table_bytes table all = flat_length row_bytes 32 table (rows_long table all)

pub byte_at : (table : List (List ℕ)) → All (λ row. length row ≡ 16) table → (i j b : ℕ) → i < length table → j < 16 → b < 2 →
    get_or (table_bytes table) (32 * i + (2 * j + b)) 0 ≡ get_or (two_bytes (get_or (get_or table i []) j 0)) b 0
unfolding table_bytes
byte_at table all i j b h g k =
    let long : length (get_or table i []) ≡ 16 = all i [] h in
    flat_at row_bytes 32 table (rows_long table all) i (2 * j + b) [] h (omega arith) ∙ row_at (get_or table i []) j b (omega arith) k

-- a number of two bytes
pub entry_at : (table : List (List ℕ)) → All (λ row. length row ≡ 16) table → (i j : ℕ) → i < length table → j < 16 → number_at (table_bytes table) (16 * i + j) ≡ get_or (get_or table i []) j 0
unfolding number_at
entry_at table all i j h g =
    let first : 2 * (16 * i + j) ≡ 32 * i + (2 * j + 0) = omega arith in
    let second : 2 * (16 * i + j) + 1 ≡ 32 * i + (2 * j + 1) = omega arith in
    let high : get_or (table_bytes table) (2 * (16 * i + j)) 0 ≡ get_or (get_or table i []) j 0 / 256 = ap (λ n. get_or (table_bytes table) n 0) first ∙ byte_at table all i j 0 h g (omega arith) in
    let low : get_or (table_bytes table) (2 * (16 * i + j) + 1) 0 ≡ get_or (get_or table i []) j 0 % 256 = ap (λ n. get_or (table_bytes table) n 0) second ∙ byte_at table all i j 1 h g (omega arith) in
    omega (arith, high, low)

pub claimed_at : (bytes : List ℕ) (i j : ℕ) → claimed_entry bytes (i + 1) (j + 1) ≡ number_at bytes (16 * i + j)
unfolding claimed_entry
claimed_at bytes i j = let e : 16 * (i + 1 - 1) + (j + 1 - 1) ≡ 16 * i + j = omega arith in ap (number_at bytes) e

-- a table that is spelled is read back
pub table_back : (table : List (List ℕ)) (rows : ℕ) → All (λ row. length row ≡ 16) table → length table ≡ rows → claimed_table (table_bytes table) rows ≡ table
unfolding claimed_table claimed_row
table_back table rows all size =
    sym (is_numbered (claimed_row (table_bytes table)) rows [] table size (λ i h.
    is_numbered (claimed_entry (table_bytes table) (i + 1)) 16 0 (get_or table i []) (all i [] (omega arith)) (λ j g.
    sym (claimed_at (table_bytes table) i j ∙ entry_at table all i j (omega arith) g))))

pub rows_of_16 : (bytes : List ℕ) (rows : ℕ) → All (λ row. length row ≡ 16) (claimed_table bytes rows)
unfolding claimed_table claimed_row
rows_of_16 bytes rows = λ k d h.
    let size : length (numbered (claimed_row bytes) rows) ≡ rows = length-numbered (claimed_row bytes) rows in
    ap length (get_or-numbered (claimed_row bytes) rows k d (omega arith)) ∙ length-numbered (claimed_entry bytes (k + 1)) 16

-- bytes that are read as a table are spelled by it
pub number_split : (x y n : ℕ) → y < 256 → n ≡ 256 * x + y → (n / 256 ≡ x) × (n % 256 ≡ y)
number_split x y n h e = (omega arith, omega arith)

pub table_again : (bytes : List ℕ) (rows : ℕ) → ((k : ℕ) → get_or bytes k 0 < 256) → length bytes ≡ 32 * rows → table_bytes (claimed_table bytes rows) ≡ bytes
unfolding claimed_table claimed_row number_at
table_again bytes rows small size =
    ext_get_or 0 (table_bytes table) bytes (omega (arith, long)) (λ q h. at (q / 32) (q % 32 / 2) (q % 2) q (omega arith) (omega (arith, long)) (omega arith) (omega arith))
  where
    table : List (List ℕ)
    table = claimed_table bytes rows

    many : length table ≡ rows
    many = length-numbered (claimed_row bytes) rows

    long : length (table_bytes table) ≡ 32 * rows
    long = omega (arith, length-table_bytes table (rows_of_16 bytes rows), many)

    value : (i j : ℕ) → i < rows → j < 16 → get_or (get_or table i []) j 0 ≡ 256 * get_or bytes (2 * (16 * i + j)) 0 + get_or bytes (2 * (16 * i + j) + 1) 0
    value i j h g =
        ap (λ row. get_or row j 0) (get_or-numbered (claimed_row bytes) rows i [] h) ∙ (get_or-numbered (claimed_entry bytes (i + 1)) 16 j 0 g ∙ claimed_at bytes i j)

    at : (i j b q : ℕ) → q ≡ 32 * i + (2 * j + b) → i < rows → j < 16 → b < 2 → get_or (table_bytes table) q 0 ≡ get_or bytes q 0
    at i j zero q e h g k =
        let two = number_split (get_or bytes (2 * (16 * i + j)) 0) (get_or bytes (2 * (16 * i + j) + 1) 0) (get_or (get_or table i []) j 0) (small (2 * (16 * i + j) + 1)) (value i j h g) in
        let place : 2 * (16 * i + j) ≡ q = omega arith in
        ap (λ n. get_or (table_bytes table) n 0) e ∙ (byte_at table (rows_of_16 bytes rows) i j 0 (omega (arith, many)) g k ∙ (two.0 ∙ ap (λ n. get_or bytes n 0) place))
    at i j (suc zero) q e h g k =
        let two = number_split (get_or bytes (2 * (16 * i + j)) 0) (get_or bytes (2 * (16 * i + j) + 1) 0) (get_or (get_or table i []) j 0) (small (2 * (16 * i + j) + 1)) (value i j h g) in
        let place : 2 * (16 * i + j) + 1 ≡ q = omega arith in
        ap (λ n. get_or (table_bytes table) n 0) e ∙ (byte_at table (rows_of_16 bytes rows) i j 1 (omega (arith, many)) g k ∙ (two.1 ∙ ap (λ n. get_or bytes n 0) place))
    at i j (suc (suc b)) q e h g k = absurd (omega arith)

-- the parts of a field, of which the bits take n bytes
pub part_of_bits : (m x y : ℕ) (bits table : List ℕ) (n : ℕ) → n ≡ length bits → take n (drop 3 ((m ∷ x ∷ y ∷ []) ++ bits ++ table)) ≡ bits
part_of_bits m x y bits table n e = ap (λ k. take k (bits ++ table)) e ∙ take-append_seam bits table

pub part_of_table : (m x y : ℕ) (bits table : List ℕ) (n : ℕ) → n ≡ length bits → drop (3 + n) ((m ∷ x ∷ y ∷ []) ++ bits ++ table) ≡ table
part_of_table m x y bits table n e =
    sym (drop-drop n 3 ((m ∷ x ∷ y ∷ []) ++ bits ++ table)) ∙ (ap (λ k. drop k (bits ++ table)) e ∙ drop-append_seam bits table)

pub parts_together : (bytes : List ℕ) (n : ℕ) → 3 + n ≤ length bytes →
    (get_or bytes 0 0 ∷ get_or bytes 1 0 ∷ get_or bytes 2 0 ∷ []) ++ take n (drop 3 bytes) ++ drop (3 + n) bytes ≡ bytes
parts_together [] n h = absurd (omega arith)
parts_together (m ∷ []) n h = absurd (omega arith)
parts_together (m ∷ x ∷ []) n h = absurd (omega arith)
parts_together (m ∷ x ∷ y ∷ rest) n h =
    let behind : drop (3 + n) (m ∷ x ∷ y ∷ rest) ≡ drop n rest = sym (drop-drop n 3 (m ∷ x ∷ y ∷ rest)) in
    ap (λ tail. m ∷ x ∷ y ∷ (take n rest ++ tail)) behind ∙ ap (λ tail. m ∷ x ∷ y ∷ tail) (take-append-drop n rest)
