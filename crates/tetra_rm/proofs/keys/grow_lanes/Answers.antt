use Rattle.tetra_rm.proofs.KeyTables.{grown_lanes}
use Rattle.tetra_rm.proofs.keys.grow_lanes.Goals as goal

pub loop-at-preserved : goal.loop-at-preserved
loop-at-preserved c =
    grown_lanes c.args.keys.now c.loop-at.keys c.args.size c.loop-at.at c.args.zero c.args.one c.added.result c.added-in-loop-at.result c.requires.room c.loop-at-test.true c.loop-at.invariant
    c.added.ensures.long c.added-in-loop-at.ensures.long c.added.ensures.value c.added-in-loop-at.ensures.value
