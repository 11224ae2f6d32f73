use Rattle.std.proofs.Common.{◌≡◌, arith, ◌∙◌, ap}
use Rattle.tetra_mother.specs.Mother.{sum2, edge_term, edge}
use Rattle.tetra_mother.proofs.output_of.Goals as goal

pub returns : goal.returns
unfolding edge
returns g c =
    let e : c.loop-j.j ≡ 5 = omega arith in
    c.loop-j.invariant ∙ ap (sum2 (edge_term g.M.Mother.taps c.args.state c.args.bit c.args.out)) e
