use Rattle.tetra_cert.specs.lemmas.Places.{accepted_exactly}
use Rattle.tetra_cert.proofs.laws.accepted_exactly.Goals as goal

pub returns : goal.returns
returns c = accepted_exactly
