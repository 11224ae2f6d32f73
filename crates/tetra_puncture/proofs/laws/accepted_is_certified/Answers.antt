use Rattle.tetra_puncture.specs.lemmas.Certificates.{accepted_is_certified}
use Rattle.tetra_puncture.proofs.laws.accepted_is_certified.Goals as goal

pub returns : goal.returns
returns c = accepted_is_certified
