use Rattle.std.proofs.Common.{append-nil}
use Rattle.tetra_records.proofs.Fields.{packed_none}
use Rattle.tetra_records.proofs.spelling.append_field.Goals as goal

pub returns-in_default : goal.returns-in_default
returns-in_default c = rw (c.in_default.is, packed_none, append-nil)
