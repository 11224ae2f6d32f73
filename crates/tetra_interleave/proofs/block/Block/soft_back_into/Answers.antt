use Rattle.std.proofs.Common.{◌≡◌, length, pos, ap, ◌∙◌}
use Rattle.tetra_interleave.specs.Block.{block_place}
use Rattle.tetra_interleave.proofs.BySteps.{taken_steps}
use Rattle.tetra_interleave.specs.lemmas.Blocks.{blocks_are_one_to_one}
use Rattle.tetra_interleave.specs.lemmas.Placed.{length-taken, taken_is, same_target, undone}
use Rattle.tetra_interleave.proofs.block.Block.soft_back_into.Goals as goal

pub returns-clause-value : goal.returns-clause-value
returns-clause-value g c = taken_steps (pos 0) g.row.K g.row.A c.args.x.now c.values_by_steps.new.all c.values_by_steps.ensures

pub returns-clause-places : goal.returns-clause-places
returns-clause-places g c = rw (returns-clause-value g c) (taken_is (pos 0) g.row.K (block_place g.row.K g.row.A) c.args.x.now c.requires.size)

pub returns-clause-out : goal.returns-clause-out
returns-clause-out g c =
    rw (returns-clause-value g c) ((undone (pos 0) g.row.K (block_place g.row.K g.row.A) c.args.x.now (blocks_are_one_to_one g.row.K g.row.A g.row.INV c.requires.fits) c.requires.size).out)

pub returns-clause-only : goal.returns-clause-only
returns-clause-only g c =
    let l : length c.values_by_steps.new.all ≡ g.row.K = ap length (returns-clause-value g c) ∙ length-taken (pos 0) g.row.K (block_place g.row.K g.row.A) c.args.x.now in
    λ z h. same_target (pos 0) g.row.K (block_place g.row.K g.row.A) c.values_by_steps.new.all c.args.x.now z (blocks_are_one_to_one g.row.K g.row.A g.row.INV c.requires.fits) l (returns-clause-places g c) h
