use Rattle.std.proofs.Common.{take}
use Rattle.tetra_c.proofs.BlockRings.{blocks_whole}
use Rattle.tetra_c.proofs.kept_blocks.TetraKeptBlocks.fill_word.Goals as goal

pub spread_ring-requires-clause-size : goal.spread_ring-requires-clause-size
spread_ring-requires-clause-size g c = blocks_whole (take c.from.result c.args.self.now.blocks)
