use Rattle.std.proofs.Common.{◌*◌}
use Rattle.tetra_puncture.specs.Spread.{IsSpreadTo}
use Rattle.tetra_puncture.proofs.spreading.spread_into.Given as goal

abbrev pub invariant-loop-turn : goal.invariant-loop-turn
invariant-loop-turn g l = IsSpreadTo g.P.Plan.plan l.soft (12 * l.turn) l.wide
