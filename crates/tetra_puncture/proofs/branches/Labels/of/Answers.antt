use Rattle.std.proofs.Common.{refl}
use Rattle.tetra_puncture.specs.lemmas.Quarter.{quarter_labels, quarter_masks}
use Rattle.tetra_puncture.proofs.branches.Labels.of.Goals as goal

pub returns-then-is_quarter : goal.returns-then-is_quarter
returns-then-is_quarter g c =
    let taps = g.M.Mother.taps in
    let outs = g.M.Mother.OUTS in
    let is = c.if-is_quarter.ensures refl in
    record {
      labels = quarter_labels taps outs is c.of_quarter.result c.of_quarter.ensures.labels;
      masks = quarter_masks taps outs is c.of_quarter.result c.of_quarter.ensures.masks;
    }
