use Rattle.std.proofs.Common.{false}
use Rattle.tetra_interleave.specs.Block.{block_place}
use Rattle.tetra_interleave.proofs.BySteps.{placed_steps}
use Rattle.tetra_interleave.specs.lemmas.Blocks.{blocks_are_one_to_one}
use Rattle.tetra_interleave.specs.lemmas.Placed.{placed_is, same_source, undone}
use Rattle.tetra_interleave.proofs.block.Block.bits_out.Goals as goal

pub returns-clause-value : goal.returns-clause-value
returns-clause-value g c = placed_steps false g.row.K g.row.A g.row.INV c.args.x.now c.bits_by_steps.result c.requires.fits c.requires.size c.bits_by_steps.ensures

pub returns-clause-places : goal.returns-clause-places
returns-clause-places g c =
    rw (returns-clause-value g c) (placed_is false g.row.K (block_place g.row.K g.row.A) c.args.x.now (blocks_are_one_to_one g.row.K g.row.A g.row.INV c.requires.fits) c.requires.size)

pub returns-clause-back : goal.returns-clause-back
returns-clause-back g c =
    rw (returns-clause-value g c) ((undone false g.row.K (block_place g.row.K g.row.A) c.args.x.now (blocks_are_one_to_one g.row.K g.row.A g.row.INV c.requires.fits) c.requires.size).back)

pub returns-clause-only : goal.returns-clause-only
returns-clause-only g c = λ z h. same_source false g.row.K (block_place g.row.K g.row.A) c.args.x.now c.bits_by_steps.result z c.requires.size (returns-clause-places g c) h
