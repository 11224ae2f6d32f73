use Rattle.std.proofs.Common.{refl}
use Rattle.tetra_puncture.specs.lemmas.Quarter.{labels_written, masks_written}
use Rattle.tetra_puncture.proofs.branches.Labels.of_quarter.Goals as goal

pub returns-clause-labels : goal.returns-clause-labels
returns-clause-labels c = labels_written _ refl refl

pub returns-clause-masks : goal.returns-clause-masks
returns-clause-masks c = masks_written _ refl
