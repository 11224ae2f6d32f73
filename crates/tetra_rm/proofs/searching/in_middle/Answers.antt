use Rattle.std.proofs.Common.{[], get_or, arith, ap}
use Rattle.tetra_rm.specs.Search.{key_in_middle}
use Rattle.tetra_rm.proofs.searching.in_middle.Goals as goal

pub returns-clause-keys : goal.returns-clause-keys
unfolding key_in_middle
returns-clause-keys c = λ j h.
    let first = ap (λ v. get_or (get_or c.args.first.now v []) j 0) c.from.ensures in
    let second = ap (λ v. get_or (get_or c.args.second.now v []) j 0) c.from-2.ensures in
    omega (arith, c.added.ensures.value j h, c.added-keys.ensures.value j h, c.all_lanes.ensures.value j h, first, second)
