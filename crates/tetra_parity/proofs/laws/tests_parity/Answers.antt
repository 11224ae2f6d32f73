use Rattle.tetra_parity.specs.lemmas.Messages.{tests_parity}
use Rattle.tetra_parity.proofs.laws.tests_parity.Goals as goal

pub returns : goal.returns
returns c = tests_parity
