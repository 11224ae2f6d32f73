use Rattle.std.proofs.Common.{length, ap, ◌∙◌}
use Rattle.tetra_scramble.specs.lemmas.Entries.{length-flipped}
use Rattle.tetra_channels.proofs.raw.Raw72.encode.Goals as goal

pub returns-clause-size : goal.returns-clause-size
returns-clause-size c = ap length c.flip_bits.ensures ∙ length-flipped c.args.block.now c.args.key.now 1 ∙ c.requires
