use Rattle.tetra_puncture.specs.Decoding.{BackFrom}
use Rattle.tetra_trellis.proofs.Back.{SixteenFrom}
use Rattle.tetra_trellis.proofs.rows.fill_tail.Given as goal

abbrev pub invariant-loop-t : goal.invariant-loop-t
invariant-loop-t g l = record {
  back : BackFrom g.P.Plan.plan l.wide (g.T.Table.rows_of l.table) l.t;
  sixteen : SixteenFrom (g.T.Table.rows_of l.table) l.t;
}
