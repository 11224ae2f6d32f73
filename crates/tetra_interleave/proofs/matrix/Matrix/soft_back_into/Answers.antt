use Rattle.std.proofs.Common.{◌≡◌, ◌*◌, length, pos, ap, ◌∙◌}
use Rattle.tetra_interleave.specs.Matrix.{matrix_place}
use Rattle.tetra_interleave.specs.lemmas.Matrices.{matrices_are_one_to_one}
use Rattle.tetra_interleave.specs.lemmas.Placed.{length-taken, taken_is, same_target, undone}
use Rattle.tetra_interleave.proofs.matrix.Matrix.soft_back_into.Goals as goal

pub returns-clause-places : goal.returns-clause-places
returns-clause-places g c = rw c.values_by_columns.ensures (taken_is (pos 0) (g.row.ROWS * g.row.COLS) (matrix_place g.row.ROWS g.row.COLS) c.args.x.now c.requires.size)

pub returns-clause-out : goal.returns-clause-out
returns-clause-out g c =
    rw c.values_by_columns.ensures ((undone (pos 0) (g.row.ROWS * g.row.COLS) (matrix_place g.row.ROWS g.row.COLS) c.args.x.now (matrices_are_one_to_one g.row.ROWS g.row.COLS) c.requires.size).out)

pub returns-clause-only : goal.returns-clause-only
returns-clause-only g c =
    let l : length c.values_by_columns.new.all ≡ g.row.ROWS * g.row.COLS = ap length c.values_by_columns.ensures ∙ length-taken (pos 0) (g.row.ROWS * g.row.COLS) (matrix_place g.row.ROWS g.row.COLS) c.args.x.now in
    λ z h. same_target (pos 0) (g.row.ROWS * g.row.COLS) (matrix_place g.row.ROWS g.row.COLS) c.values_by_columns.new.all c.args.x.now z (matrices_are_one_to_one g.row.ROWS g.row.COLS) l (returns-clause-places g c) h
