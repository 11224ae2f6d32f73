use Rattle.std.proofs.Common.{◌≡◌, ◌≤◌, ◌+◌, length}
use Rattle.tetra_puncture.specs.Butterflies.{MarkedFrom}
use Rattle.tetra_puncture.specs.Decoding.{BackFrom}
use Rattle.tetra_trellis.proofs.Back.{SixteenFrom}
use Rattle.tetra_trellis.proofs.rows.fill_rows.Given as goal

abbrev pub invariant-loop-t : goal.invariant-loop-t
invariant-loop-t g l = record {
  back : BackFrom g.P.Plan.plan l.wide (g.T.Table.rows_of l.table) l.t;
  marked : MarkedFrom g.P.Plan.plan l.wide (g.T.Table.rows_of l.table) l.marks l.t;
  sixteen : SixteenFrom (g.T.Table.rows_of l.table) l.t;
  long : length l.marks ≡ 288;
  inside : l.t + 4 ≤ g.P.Plan.plan.steps;
}
