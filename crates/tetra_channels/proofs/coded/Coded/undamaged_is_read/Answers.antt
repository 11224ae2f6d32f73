use Rattle.std.proofs.Common.{sym, subst}
use Rattle.tetra_interleave.specs.Block.{IsBlock}
use Rattle.tetra_channels.specs.Channels.{coded}
use Rattle.tetra_channels.proofs.Undamaged.{undamaged_is_read}
use Rattle.tetra_channels.proofs.coded.Coded.undamaged_is_read.Goals as goal

pub returns : goal.returns
returns g c =
    let channel = coded g.row.PAR g.row.A g.P.Plan.plan in
    undamaged_is_read c.flipped_back.ensures c.stays_undamaged.ensures c.stay_undamaged.ensures
    c.blocks_are_one_to_one.ensures c.blocks_are_good.ensures g.row.INV channel
    (subst (λ n. IsBlock n g.row.A g.row.INV) (sym c.requires.sent) c.requires.block) (g.met.P.Plan.differ c.requires.is_sound)
