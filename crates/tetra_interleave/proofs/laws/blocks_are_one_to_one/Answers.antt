use Rattle.tetra_interleave.specs.lemmas.Blocks.{blocks_are_one_to_one}
use Rattle.tetra_interleave.proofs.laws.blocks_are_one_to_one.Goals as goal

pub returns : goal.returns
returns c = blocks_are_one_to_one
