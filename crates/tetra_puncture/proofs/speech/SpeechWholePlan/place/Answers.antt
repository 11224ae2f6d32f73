use Rattle.std.proofs.Common.{◌∙◌}
use Rattle.tetra_puncture.proofs.SpeechPlaces.{whole_at}
use Rattle.tetra_puncture.proofs.speech.SpeechWholePlan.place.Goals as goal

pub returns : goal.returns
returns c = c.from.ensures ∙ whole_at c.args.j c.requires.first c.requires.last
