use Rattle.tetra_channels.proofs.Undamaged.{undamaged_raw_is_read}
use Rattle.tetra_channels.proofs.raw.Raw72.undamaged_is_read.Goals as goal

pub returns : goal.returns
returns c = undamaged_raw_is_read c.flipped_back.ensures c.stays_undamaged.ensures
