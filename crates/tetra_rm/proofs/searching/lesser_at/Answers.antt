use Rattle.std.proofs.Common.{◌≡◌, ◌+◌, ◌*◌, ◌≤◌, get_or, arith}
use Rattle.tetra_rm.specs.Search.{key_by_tables}
use Rattle.tetra_rm.proofs.Least.{least_joined, least_kept}
use Rattle.tetra_rm.proofs.Tables.{front_is_below}
use Rattle.tetra_rm.proofs.searching.lesser_at.Goals as goal

pub returns-then-front-at : goal.returns-then-front-at
returns-then-front-at c = λ f n same l.
    least_joined f (λ v. key_by_tables c.args.first.now c.args.second.now c.args.front.now c.args.middle.now c.args.last.now (c.args.at * 512 + v))
    n 512 c.args.least c.least_at.result c.min.result same c.min.ensures l c.least_at.ensures

pub returns : goal.returns
returns c = λ f n same l.
    least_kept f n 512 c.args.least
    (λ v h.
    let most : get_or c.args.front.now.keys c.args.at 0 ≤ key_by_tables c.args.first.now c.args.second.now c.args.front.now c.args.middle.now c.args.last.now (c.args.at * 512 + v) =
    front_is_below c.args.first.now c.args.second.now c.args.front.now c.args.middle.now c.args.last.now c.args.at v h in
    let here : f (n + v) ≡ key_by_tables c.args.first.now c.args.second.now c.args.front.now c.args.middle.now c.args.last.now (c.args.at * 512 + v) = same v h in
    omega (arith, c.if-front-at.false))
    l
