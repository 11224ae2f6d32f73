use Rattle.std.proofs.Common.{◌<◌, ◌∙◌, arith}
use Rattle.tetra_puncture.proofs.Padding.{sum_is_output}
use Rattle.tetra_puncture.proofs.outputs.output_of.Goals as goal

pub returns : goal.returns
returns g c = λ m p t h.
    let below : t < c.loop-t.t = omega arith in
    c.loop-t.invariant.sums t below
    ∙ sum_is_output g.M.Mother.taps m c.args.bits.now c.tap.result c.tap-2.result c.tap-3.result c.tap-4.result c.tap-5.result c.args.i t p h
    c.tap.ensures c.tap-2.ensures c.tap-3.ensures c.tap-4.ensures c.tap-5.ensures
