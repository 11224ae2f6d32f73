use Rattle.tetra_channels.proofs.Undamaged.{undamaged_access_is_read}
use Rattle.tetra_channels.proofs.access.Aach.undamaged_is_read.Goals as goal

pub returns : goal.returns
returns c = undamaged_access_is_read c.flipped_back.ensures c.stays_undamaged.ensures c.undamaged_arrives.ensures
