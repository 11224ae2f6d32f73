use Rattle.std.proofs.Common.{◌+◌}
use Rattle.tetra_puncture.specs.Spread.{IsSpreadTo}
use Rattle.tetra_puncture.proofs.spreading.put.Given as goal

abbrev pub invariant-loop-i : goal.invariant-loop-i
invariant-loop-i g l = IsSpreadTo g.P.Plan.plan l.soft (l.first + l.i) l.wide
