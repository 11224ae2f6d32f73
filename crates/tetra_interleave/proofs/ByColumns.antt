-- A matrix whose columns stand one behind the other, read row by row.
use Rattle.std.proofs.Common.{ℕ, ◌+◌, ◌-◌, ◌*◌, ◌≡◌, ◌/◌, ◌%◌, ◌<◌, ◌≤◌, List, length, get_or, arith, ap, sym, subst, ◌∙◌}
use Rattle.std.specs.Prelude.{slice_set}
use Rattle.std.proofs.Math.Nat.{mul-le-mul_left}
use Rattle.std.proofs.lemmas.Nat.{mul-add-lt, mod-mul-add, div-mul-add}
use Rattle.tetra_bits.specs.lemmas.InPlace.{Begins, begins_set, begins_all}
use Rattle.tetra_interleave.specs.Matrix.{matrix_place}
use Rattle.tetra_interleave.specs.lemmas.Matrices.{place_back, matrices_are_one_to_one}
use Rattle.tetra_interleave.specs.Placed.{IsOneToOne, IsPlaced, entry_from, placed, taken}
use Rattle.tetra_interleave.specs.lemmas.Placed.{length-taken, taken_is, placed_only}

-- where an entry stands in the order of rows, and where in the order of columns
pub cell_in_order : (rows cols row col : ℕ) → row < rows → col < cols → cols * row + col < rows * cols
cell_in_order rows cols row col lr lc =
    let place : row * cols + col < cols * rows = mul-add-lt row cols col rows lr lc in
    omega arith

module _ {X : Type 0} where
  -- one entry of a row more
  pub row_more : (d : X) (rows cols row col : ℕ) (x old new : List X) (v : X) → row < rows → col < cols → length old ≡ rows * cols
      → Begins (entry_from d (matrix_place rows cols) x) d (cols * row + col) old → new ≡ slice_set old (cols * row + col) v
      → v ≡ get_or x (rows * col + row) d → Begins (entry_from d (matrix_place rows cols) x) d (cols * row + (col + 1)) new
  unfolding entry_from matrix_place
  row_more d rows cols row col x old new v lr lc size before en ev =
      let n = cols * row + col in
      let turn : n ≡ row * cols + col = omega arith in
      let m : n % cols ≡ col = ap (λ k. k % cols) turn ∙ mod-mul-add row cols col lc in
      let q : n / cols ≡ row = ap (λ k. k / cols) turn ∙ div-mul-add row cols col lc in
      let next : n + 1 ≡ cols * row + (col + 1) = omega arith in
      let back : n + 1 - 1 ≡ n = omega arith in
      let place : rows * col + row ≡ rows * ((n + 1 - 1) % cols) + (n + 1 - 1) / cols + 1 - 1 = rw back (rw (m, q) (omega arith)) in
      let here : v ≡ entry_from d (matrix_place rows cols) x (n + 1) = ev ∙ ap (λ k. get_or x k d) place in
      let within : n < length old = rw size (cell_in_order rows cols row col lr lc) in
      subst (λ k. Begins (entry_from d (matrix_place rows cols) x) d k new) next
      (begins_set (entry_from d (matrix_place rows cols) x) d n old new v before en within here)

  -- all rows
  pub all_rows : (d : X) (rows cols row : ℕ) (x all : List X) → rows ≤ row → length all ≡ rows * cols
      → Begins (entry_from d (matrix_place rows cols) x) d (cols * row) all → all ≡ taken d (rows * cols) (matrix_place rows cols) x
  unfolding taken
  all_rows d rows cols row x all end size before =
      let more : cols * rows ≤ cols * row = mul-le-mul_left cols end in
      begins_all (entry_from d (matrix_place rows cols) x) d (rows * cols) (cols * row) all size before (omega (arith, more))

  -- read with rows and columns exchanged, the entries stand at their places
  pub placed_columns : (d : X) (rows cols : ℕ) (x all : List X) → length x ≡ rows * cols → all ≡ taken d (cols * rows) (matrix_place cols rows) x → all ≡ placed d (rows * cols) (matrix_place rows cols) x
  placed_columns d rows cols x all l e =
      let turn : cols * rows ≡ rows * cols = omega arith in
      let size : length all ≡ rows * cols = ap length e ∙ length-taken d (cols * rows) (matrix_place cols rows) x ∙ turn in
      let is : IsPlaced d (cols * rows) (matrix_place cols rows) all x = rw e (taken_is d (cols * rows) (matrix_place cols rows) x (l ∙ sym turn)) in
      let o : IsOneToOne (rows * cols) (matrix_place rows cols) = matrices_are_one_to_one rows cols in
      placed_only d (rows * cols) (matrix_place rows cols) x all o l
      (record {
        size = size ∙ sym l;
        entries = λ i one le.
            let within = o.within i one le in
            sym (is.entries (matrix_place rows cols i) within.0 (omega (arith, within.1))) ∙ ap (λ n. get_or x (n - 1) d) (place_back rows cols i one le);
      })
