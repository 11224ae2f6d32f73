use Rattle.tetra_c.proofs.BlockRings.{block_written}
use Rattle.tetra_c.proofs.kept_blocks.TetraKeptBlock.put.Goals as goal

pub returns : goal.returns
returns c = block_written _ c.args.block.now c.requires c.put_bits.ensures
