use Rattle.std.proofs.Common.{◌≡◌, ◌+◌, ◌*◌, length, pos}
use Rattle.tetra_bits.specs.lemmas.InPlace.{Begins}
use Rattle.tetra_interleave.specs.Matrix.{matrix_place}
use Rattle.tetra_interleave.specs.Placed.{entry_from}
use Rattle.tetra_interleave.proofs.matrix.take_row_of_values.Given as goal

abbrev pub invariant-loop-col : goal.invariant-loop-col
invariant-loop-col g l =
    record {
      size : length l.all ≡ g.row.ROWS * g.row.COLS;
      taken : Begins (entry_from (pos 0) (matrix_place g.row.ROWS g.row.COLS) l.x) (pos 0) (g.row.COLS * l.row) l.initial.all
          → Begins (entry_from (pos 0) (matrix_place g.row.ROWS g.row.COLS) l.x) (pos 0) (g.row.COLS * l.row + l.col) l.all;
    }
