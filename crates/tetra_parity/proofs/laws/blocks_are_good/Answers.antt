use Rattle.tetra_parity.specs.lemmas.Messages.{blocks_are_good}
use Rattle.tetra_parity.proofs.laws.blocks_are_good.Goals as goal

pub returns : goal.returns
returns c = blocks_are_good
