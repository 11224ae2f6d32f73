use Rattle.tetra_parity.specs.lemmas.Messages.{parity_holds}
use Rattle.tetra_parity.proofs.laws.parity_holds.Goals as goal

pub returns : goal.returns
returns c = parity_holds
