use Rattle.tetra_channels.specs.Channels.{coded}
use Rattle.tetra_channels.proofs.NoneWrong.{none_wrong_word_is_read}
use Rattle.tetra_channels.proofs.coded.Coded.none_wrong_word_is_read.Goals as goal

pub returns : goal.returns
returns g c = none_wrong_word_is_read (coded g.row.PAR g.row.A g.P.Plan.plan)
