use Rattle.std.proofs.Common.{arith, length, ap, ◌∙◌}
use Rattle.tetra_parity.specs.Parity.{width, with_parity}
use Rattle.tetra_parity.specs.lemmas.Messages.{length-with_parity}
use Rattle.tetra_puncture.specs.Plan.{word}
use Rattle.tetra_channels.specs.Channels.{message_of, type3_bits}
use Rattle.tetra_channels.proofs.Sizes.{width-parity_of}
use Rattle.tetra_channels.proofs.coded.Coded.type3.Goals as goal

pub keep-requires-clause-size : goal.keep-requires-clause-size
keep-requires-clause-size g c =
    let size = ap length c.with_parity.ensures ∙ length-with_parity c.parity_of.result c.args.block.now in
    let bits = ap width c.parity_of.ensures ∙ width-parity_of g.row.PAR c.requires.channel.parity in
    omega (arith, size, bits, c.requires.size, g.met.P.Plan.same_steps)

pub returns-clause-bits : goal.returns-clause-bits
unfolding type3_bits message_of
returns-clause-bits g c =
    c.keep.ensures.word
    ∙ ap (word g.P.Plan.plan) (c.with_parity.ensures ∙ ap (λ k. with_parity k c.args.block.now) c.parity_of.ensures)
