use Rattle.std.proofs.Common.{◌+◌, ◌*◌, get_or, refl}
use Rattle.tetra_rm.specs.Search.{key_in_middle, key_by_tables}
use Rattle.tetra_rm.proofs.Least.{least_by_lanes}
use Rattle.tetra_rm.proofs.Tables.{key_is_by_parts}
use Rattle.tetra_rm.proofs.searching.least_at.Goals as goal

pub returns : goal.returns
returns c =
    least_by_lanes (λ v. key_by_tables c.args.first.now c.args.second.now c.args.front.now c.args.middle.now c.args.last.now (c.args.at * 512 + v))
    (λ j m. key_in_middle c.args.first.now c.args.second.now c.args.middle.now (get_or c.args.front.now.sums c.args.at 0) j m + get_or c.args.front.now.keys c.args.at 0)
    64 (λ j. get_or c.least_behind-least.result j 0) (λ j. get_or c.args.last.now.keys j 0) c.least_lane.result
    (key_is_by_parts c.args.first.now c.args.second.now c.args.front.now c.args.middle.now c.args.last.now c.args.at)
    (λ j h. c.least_behind-least.ensures.least j h
    (λ m. key_in_middle c.args.first.now c.args.second.now c.args.middle.now (get_or c.args.front.now.sums c.args.at 0) j m + get_or c.args.front.now.keys c.args.at 0)
    (λ m l. refl))
    c.least_lane.ensures
