use Rattle.std.proofs.Common.{◌≡◌, length, false, ap, ◌∙◌}
use Rattle.tetra_interleave.specs.Block.{block_place}
use Rattle.tetra_interleave.proofs.BySteps.{taken_steps}
use Rattle.tetra_interleave.specs.lemmas.Blocks.{blocks_are_one_to_one}
use Rattle.tetra_interleave.specs.lemmas.Placed.{length-taken, taken_is, same_target, undone}
use Rattle.tetra_interleave.proofs.block.Block.bits_back.Goals as goal

pub returns-clause-value : goal.returns-clause-value
returns-clause-value g c = taken_steps false g.row.K g.row.A c.args.x.now c.bits_by_steps.result c.bits_by_steps.ensures

pub returns-clause-places : goal.returns-clause-places
returns-clause-places g c = rw (returns-clause-value g c) (taken_is false g.row.K (block_place g.row.K g.row.A) c.args.x.now c.requires.size)

pub returns-clause-out : goal.returns-clause-out
returns-clause-out g c =
    rw (returns-clause-value g c) ((undone false g.row.K (block_place g.row.K g.row.A) c.args.x.now (blocks_are_one_to_one g.row.K g.row.A g.row.INV c.requires.fits) c.requires.size).out)

pub returns-clause-only : goal.returns-clause-only
returns-clause-only g c =
    let l : length c.bits_by_steps.result ≡ g.row.K = ap length (returns-clause-value g c) ∙ length-taken false g.row.K (block_place g.row.K g.row.A) c.args.x.now in
    λ z h. same_target false g.row.K (block_place g.row.K g.row.A) c.bits_by_steps.result c.args.x.now z (blocks_are_one_to_one g.row.K g.row.A g.row.INV c.requires.fits) l (returns-clause-places g c) h
