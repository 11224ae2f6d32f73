use Rattle.std.proofs.Common.{◌+◌, get_or, refl}
use Rattle.tetra_rm.proofs.Least.{least_of_one, least_more}
use Rattle.tetra_rm.proofs.searching.least_lane.Goals as goal

pub loop-at-init : goal.loop-at-init
loop-at-init c = least_of_one (λ j. get_or c.args.keys.now j 0 + get_or c.args.last.now j 0) (get_or c.args.keys.now 0 0 + get_or c.args.last.now 0 0) refl

pub loop-at-preserved : goal.loop-at-preserved
loop-at-preserved c =
    least_more (λ j. get_or c.args.keys.now j 0 + get_or c.args.last.now j 0) c.loop-at.at c.loop-at.least (get_or c.args.keys.now c.loop-at.at 0 + get_or c.args.last.now c.loop-at.at 0) c.min-least.result refl c.min-least.ensures c.loop-at.invariant
