use Rattle.std.proofs.Common.{sym, subst}
use Rattle.tetra_interleave.specs.Block.{IsBlock}
use Rattle.tetra_channels.specs.Channels.{coded}
use Rattle.tetra_channels.proofs.NoneWrong.{none_wrong_word_arrives}
use Rattle.tetra_channels.proofs.coded.Coded.none_wrong_word_arrives.Goals as goal

pub returns : goal.returns
returns g c =
    none_wrong_word_arrives c.flipped_back.ensures c.stays_none_wrong.ensures c.stay_none_wrong.ensures
    c.blocks_are_one_to_one.ensures g.row.INV (coded g.row.PAR g.row.A g.P.Plan.plan)
    (subst (λ n. IsBlock n g.row.A g.row.INV) (sym c.requires.sent) c.requires.block)
