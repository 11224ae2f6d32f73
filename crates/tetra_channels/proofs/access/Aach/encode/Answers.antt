use Rattle.std.proofs.Common.{length, ap, ◌∙◌}
use Rattle.tetra_scramble.specs.Flips.{flipped}
use Rattle.tetra_scramble.specs.lemmas.Entries.{length-flipped}
use Rattle.tetra_channels.specs.Channels.{access_bits}
use Rattle.tetra_channels.proofs.access.Aach.encode.Goals as goal

pub returns-clause-bits : goal.returns-clause-bits
unfolding access_bits
returns-clause-bits c = c.flip_bits_in_place.ensures ∙ ap (λ x. flipped x c.args.key.now 1) c.encode-bits.ensures.word

pub returns-clause-size : goal.returns-clause-size
returns-clause-size c =
    ap length c.flip_bits_in_place.ensures ∙ length-flipped c.encode-bits.result c.args.key.now 1 ∙ c.encode-bits.ensures.len
