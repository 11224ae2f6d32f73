use Rattle.std.proofs.Common.{◌≡◌, length, false, ap, sym, ◌∙◌}
use Rattle.tetra_bits.specs.Numbered.{length-numbered}
use Rattle.tetra_interleave.specs.Block.{block_place}
use Rattle.tetra_interleave.specs.Placed.{placed}
use Rattle.tetra_scramble.specs.Flips.{flipped}
use Rattle.tetra_scramble.specs.lemmas.Entries.{length-flipped, flipped_back}
use Rattle.tetra_channels.specs.Channels.{word_bits}
use Rattle.tetra_channels.proofs.coded.Coded.encode3.Goals as goal

pub returns-clause-bits : goal.returns-clause-bits
unfolding word_bits
returns-clause-bits g c =
    let sent = ap (λ k. placed false k (block_place k g.row.A) c.args.word.now) (sym c.requires.channel.sent) in
    c.flip_bits_in_place.ensures ∙ ap (λ x. flipped x c.args.key.now 1) (c.bits_out-bits.ensures.value ∙ sent)

pub returns-clause-placed : goal.returns-clause-placed
returns-clause-placed g c =
    let type4 = c.bits_out-bits.result in
    let back : flipped c.flip_bits_in_place.new.bits c.args.key.now 1 ≡ type4 = ap (λ x. flipped x c.args.key.now 1) c.flip_bits_in_place.ensures ∙ flipped_back type4 c.args.key.now 1 in
    rw back c.bits_out-bits.ensures.places

pub returns-clause-size : goal.returns-clause-size
unfolding placed
returns-clause-size g c =
    ap length c.flip_bits_in_place.ensures ∙ length-flipped c.bits_out-bits.result c.args.key.now 1 ∙ ap length c.bits_out-bits.ensures.value
    ∙ length-numbered _ g.row.K3
