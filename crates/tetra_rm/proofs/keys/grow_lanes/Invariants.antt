use Rattle.tetra_rm.proofs.KeyTables.{GrownLanes}
use Rattle.tetra_rm.proofs.keys.grow_lanes.Given as goal

abbrev pub invariant-loop-at : goal.invariant-loop-at
invariant-loop-at l = GrownLanes l.fn.keys l.keys l.size l.zero l.one l.at
