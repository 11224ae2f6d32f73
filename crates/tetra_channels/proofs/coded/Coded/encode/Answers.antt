use Rattle.std.proofs.Common.{ap, ◌∙◌}
use Rattle.tetra_channels.specs.Channels.{coded, type4_bits, type5_bits, word_bits}
use Rattle.tetra_channels.proofs.coded.Coded.encode.Goals as goal

pub returns-clause-bits : goal.returns-clause-bits
unfolding type4_bits type5_bits word_bits
returns-clause-bits g c =
    c.encode3.ensures.bits ∙ ap (word_bits (coded g.row.PAR g.row.A g.P.Plan.plan) c.args.key.now) c.type3.ensures.bits

pub returns-clause-placed : goal.returns-clause-placed
returns-clause-placed g c = rw (← c.type3.ensures.bits) c.encode3.ensures.placed
