use Rattle.std.proofs.Common.{length, pos, ap, sym, ◌∙◌}
use Rattle.tetra_bits.specs.Numbered.{length-numbered}
use Rattle.tetra_interleave.specs.Block.{block_place}
use Rattle.tetra_interleave.specs.Placed.{taken}
use Rattle.tetra_scramble.specs.Flips.{turned}
use Rattle.tetra_scramble.specs.lemmas.Entries.{length-turned}
use Rattle.tetra_channels.specs.Channels.{front_values}
use Rattle.tetra_channels.proofs.coded.Coded.front_into.Goals as goal

pub soft_back_into-requires-clause-size : goal.soft_back_into-requires-clause-size
soft_back_into-requires-clause-size g c = ap length c.flip_soft.ensures ∙ length-turned c.args.soft.now c.args.key.now 1 ∙ c.requires.size

pub returns-clause-values : goal.returns-clause-values
unfolding front_values
returns-clause-values g c =
    let sent = ap (λ k. taken (pos 0) k (block_place k g.row.A) (turned c.args.soft.now c.args.key.now 1)) (sym c.requires.channel.sent) in
    c.soft_back_into.ensures.value ∙ ap (taken (pos 0) g.row.K3 (block_place g.row.K3 g.row.A)) c.flip_soft.ensures ∙ sent

pub returns-clause-placed : goal.returns-clause-placed
returns-clause-placed g c = rw (← c.flip_soft.ensures) c.soft_back_into.ensures.places

pub returns-clause-size : goal.returns-clause-size
unfolding taken
returns-clause-size g c = ap length c.soft_back_into.ensures.value ∙ length-numbered _ g.row.K3
