use Rattle.std.proofs.Common.{◌+◌, get_or}
use Rattle.tetra_rm.specs.Search.{IsLeastBelow}
use Rattle.tetra_rm.proofs.searching.least_lane.Given as goal

abbrev pub invariant-loop-at : goal.invariant-loop-at
invariant-loop-at l = IsLeastBelow (λ j. get_or l.keys j 0 + get_or l.last j 0) l.at l.least
