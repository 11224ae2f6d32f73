use Rattle.tetra_channels.specs.Channels.{coded}
use Rattle.tetra_channels.proofs.Undamaged.{undamaged_word_is_read}
use Rattle.tetra_channels.proofs.coded.Coded.undamaged_word_is_read.Goals as goal

pub returns : goal.returns
returns g c =
    undamaged_word_is_read c.blocks_are_good.ensures (coded g.row.PAR g.row.A g.P.Plan.plan) (g.met.P.Plan.differ c.requires.is_sound)
