use Rattle.std.proofs.Common.{◌≡◌, arith, ◌∙◌, ap}
use Rattle.tetra_mother.specs.Mother.{sum2, term, output}
use Rattle.tetra_mother.proofs.code.Goals as goal

pub returns : goal.returns
unfolding output
returns g c =
    let e : c.loop-j.j ≡ 5 = omega arith in
    c.loop-j.invariant ∙ ap (sum2 (term g.M.Mother.taps c.args.bits.now c.args.step c.args.out)) e
