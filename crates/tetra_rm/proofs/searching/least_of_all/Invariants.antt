use Rattle.std.proofs.Common.{◌+◌, ◌*◌, ◌%◌}
use Rattle.tetra_rm.specs.Search.{IsLeastBelow, key_by_tables}
use Rattle.tetra_rm.proofs.searching.least_of_all.Given as goal

-- the keys are taken in turn from the start on
abbrev pub invariant-loop-step : goal.invariant-loop-step
invariant-loop-step l = IsLeastBelow (λ k. key_by_tables l.first l.second l.front l.middle l.last ((l.start * 512 + k) % 16384)) (l.step * 512) l.least
