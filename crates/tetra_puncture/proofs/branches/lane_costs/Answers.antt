use Rattle.std.proofs.Common.{ℕ, sym, subst, ◌∙◌}
use Rattle.tetra_puncture.specs.Labels.{IsStep}
use Rattle.tetra_puncture.specs.lemmas.Butterflies.{masked_is_step, even_one_is_step, odd_zero_is_step, odd_one_is_step}
use Rattle.tetra_puncture.specs.lemmas.Stepping.{set_flag}
use Rattle.tetra_puncture.proofs.branches.lane_costs.Goals as goal

pub paired_costs-requires-clause-masks : goal.paired_costs-requires-clause-masks
paired_costs-requires-clause-masks g c = let law = g.met.P.Plan in rw (sym law.same_taps, sym law.same_outs) c.requires.masks

pub returns-then-this-ne0 : goal.returns-then-this-ne0
returns-then-this-ne0 g c =
    let law = g.met.P.Plan in
    let p = g.P.Plan.plan in
    let few = (law.sizes c.requires.sound).few_outs.1 in
    let wide = c.args.wide.now in
    let values = c.step_values.result in
    let labels = c.args.labels.now in
    let paired = c.requires.paired (set_flag g.row.PAIRED c.if-this-ne0.true) in
    let step : IsStep p.outs wide c.args.t values =
    subst (λ (o : ℕ). IsStep o wide c.args.t values) (sym law.same_outs) c.step_values.ensures.step in
    record {
      long = (c.paired_costs.ensures.long.0, c.paired_costs.ensures.long.1, c.paired_costs.ensures.long.1, c.paired_costs.ensures.long.0);
      even_zero = λ i h. c.paired_costs.ensures.cost i h ∙ masked_is_step p wide values labels c.args.t few step c.requires.masks i h;
      even_one = λ i h. c.paired_costs.ensures.turned i h ∙ even_one_is_step p wide values labels c.args.t few step c.requires.masks paired i h;
      odd_zero = λ i h. c.paired_costs.ensures.turned i h ∙ odd_zero_is_step p wide values labels c.args.t few step c.requires.masks paired i h;
      odd_one = λ i h. c.paired_costs.ensures.cost i h ∙ odd_one_is_step p wide values labels c.args.t few step c.requires.masks paired i h;
    }
