use Rattle.std.proofs.Common.{true, false, [], ◌∷◌}
use Rattle.tetra_puncture.specs.Butterflies.{HasMasks}
use Rattle.tetra_puncture.specs.Labels.{AreLabels, HasLabels, label_at}
use Rattle.tetra_puncture.specs.lemmas.Butterflies.{by_weights}
use Rattle.tetra_puncture.proofs.branches.Labels.of_any.Goals as goal

pub returns-clause-labels : goal.returns-clause-labels
unfolding HasLabels AreLabels label_at
returns-clause-labels g c = λ s. elim [
  | true ↦ c.labels_of.ensures s
  | false ↦ c.labels_of-zero.ensures s
]

pub returns-clause-masks : goal.returns-clause-masks
unfolding HasMasks
returns-clause-masks g c =
    by_weights g.M.Mother.taps g.M.Mother.OUTS c.labels_of-zero.result c.labels_of-zero.ensures
    (c.masks_of.result ∷ c.masks_of-2.result ∷ c.masks_of-3.result ∷ c.masks_of-4.result ∷ [])
    c.masks_of.ensures c.masks_of-2.ensures c.masks_of-3.ensures c.masks_of-4.ensures
