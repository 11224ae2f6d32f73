use Rattle.std.proofs.Common.{◌≡◌, sym, ◌∙◌}
use Rattle.tetra_puncture.proofs.Padding.{at_place}
use Rattle.tetra_puncture.proofs.sending.mother_bit.Goals as goal

pub returns : goal.returns
returns g c =
    let law = g.met.P.Plan in
    let sizes = law.sizes c.requires.sound in
    let outs : g.P.Plan.plan.outs ≡ c.OUTS-outs.result = law.same_outs ∙ sym c.OUTS-outs.ensures in
    at_place g.P.Plan.plan c.OUTS-outs.result c.args.outputs.now c.args.place outs sizes.few_outs.0 sizes.few_steps.1 c.requires.first c.requires.last
