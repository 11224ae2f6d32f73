use Rattle.std.proofs.Common.{◌+◌, get_or, ap, ◌∙◌}
use Rattle.tetra_rm.specs.Search.{key_in_middle}
use Rattle.tetra_rm.proofs.Least.{least_moved}
use Rattle.tetra_rm.proofs.searching.least_behind.Goals as goal

pub returns-clause-least : goal.returns-clause-least
returns-clause-least c = λ j h f same.
    least_moved f (key_in_middle c.args.first.now c.args.second.now c.args.middle.now (get_or c.args.front.now.sums c.args.at 0) j) 64 (get_or c.args.front.now.keys c.args.at 0)
    (get_or c.least_in_middle-least.result j 0) (get_or c.added.result j 0) same
    (c.added.ensures.value j h ∙ ap (λ n. get_or c.least_in_middle-least.result j 0 + n) (c.all_lanes.ensures.value j h))
    (c.least_in_middle-least.ensures.least j h)
