use Rattle.tetra_parity.proofs.Sums.{sums}
use Rattle.tetra_parity.proofs.sixteen.sixteen_of.Goals as goal

pub returns : goal.returns
returns c = sums c.args.bits.now c.args.size c.rest_of_block.result c.rest_of_ones.result c.requires.there c.rest_of_block.ensures c.rest_of_ones.ensures
