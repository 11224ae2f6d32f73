use Rattle.std.proofs.Common.{refl, ◌∙◌}
use Rattle.tetra_puncture.specs.lemmas.Butterflies.{are_masks}
use Rattle.tetra_puncture.specs.lemmas.Quarter.{quarter_is_masked, turned_is_masked}
use Rattle.tetra_puncture.proofs.branches.paired_costs.Goals as goal

pub masked_costs-requires-clause-masks : goal.masked_costs-requires-clause-masks
masked_costs-requires-clause-masks g c = are_masks g.M.Mother.taps g.M.Mother.OUTS c.args.labels.now c.requires.masks

pub returns-then-is_quarter : goal.returns-then-is_quarter
returns-then-is_quarter g c =
    let taps = g.M.Mother.taps in
    let outs = g.M.Mother.OUTS in
    let labels = c.args.labels.now in
    let values = c.args.values in
    let is = c.if-is_quarter.ensures refl in
    record {
      long = c.quarter_costs.ensures.long;
      cost = λ i h. c.quarter_costs.ensures.cost i h ∙ quarter_is_masked taps outs is labels c.requires.masks values i h;
      turned = λ i h. c.quarter_costs.ensures.turned i h ∙ turned_is_masked taps outs is labels c.requires.masks values i h;
    }
