use Rattle.tetra_channels.proofs.NoneWrong.{none_wrong_raw_is_read}
use Rattle.tetra_channels.proofs.raw.Raw72.none_wrong_is_read.Goals as goal

pub returns : goal.returns
returns c = none_wrong_raw_is_read c.flipped_back.ensures c.stays_none_wrong.ensures
