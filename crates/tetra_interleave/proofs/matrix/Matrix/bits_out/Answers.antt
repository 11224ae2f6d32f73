use Rattle.std.proofs.Common.{◌*◌, false}
use Rattle.tetra_interleave.specs.Matrix.{matrix_place}
use Rattle.tetra_interleave.specs.lemmas.Matrices.{matrices_are_one_to_one}
use Rattle.tetra_interleave.specs.lemmas.Placed.{placed_is, same_source, undone}
use Rattle.tetra_interleave.proofs.ByColumns.{placed_columns}
use Rattle.tetra_interleave.proofs.matrix.Matrix.bits_out.Goals as goal

pub returns-clause-value : goal.returns-clause-value
returns-clause-value g c = placed_columns false g.row.ROWS g.row.COLS c.args.x.now c.bits_by_columns.result c.requires.size c.bits_by_columns.ensures

pub returns-clause-places : goal.returns-clause-places
returns-clause-places g c =
    rw (returns-clause-value g c) (placed_is false (g.row.ROWS * g.row.COLS) (matrix_place g.row.ROWS g.row.COLS) c.args.x.now (matrices_are_one_to_one g.row.ROWS g.row.COLS) c.requires.size)

pub returns-clause-back : goal.returns-clause-back
returns-clause-back g c =
    rw (returns-clause-value g c) ((undone false (g.row.ROWS * g.row.COLS) (matrix_place g.row.ROWS g.row.COLS) c.args.x.now (matrices_are_one_to_one g.row.ROWS g.row.COLS) c.requires.size).back)

pub returns-clause-only : goal.returns-clause-only
returns-clause-only g c = λ z h. same_source false (g.row.ROWS * g.row.COLS) (matrix_place g.row.ROWS g.row.COLS) c.args.x.now c.bits_by_columns.result z c.requires.size (returns-clause-places g c) h
