use Rattle.std.proofs.Common.{◌∙◌}
use Rattle.tetra_puncture.proofs.SpeechPlaces.{half_at}
use Rattle.tetra_puncture.proofs.speech.SpeechHalfPlan.place.Goals as goal

pub returns : goal.returns
returns c = c.from.ensures ∙ half_at c.args.j c.requires.first c.requires.last
