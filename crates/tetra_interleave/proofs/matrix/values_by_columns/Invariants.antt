use Rattle.std.proofs.Common.{◌≡◌, ◌*◌, length, pos}
use Rattle.tetra_bits.specs.lemmas.InPlace.{Begins}
use Rattle.tetra_interleave.specs.Matrix.{matrix_place}
use Rattle.tetra_interleave.specs.Placed.{entry_from}
use Rattle.tetra_interleave.proofs.matrix.values_by_columns.Given as goal

abbrev pub invariant-loop-row : goal.invariant-loop-row
invariant-loop-row g l =
    record {
      size : length l.all ≡ g.row.ROWS * g.row.COLS;
      taken : Begins (entry_from (pos 0) (matrix_place g.row.ROWS g.row.COLS) l.x) (pos 0) (g.row.COLS * l.row) l.all;
    }
