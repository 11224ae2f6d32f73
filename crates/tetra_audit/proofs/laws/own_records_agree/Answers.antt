use Rattle.tetra_audit.proofs.OwnRecords.{own_records_agree}
use Rattle.tetra_audit.proofs.laws.own_records_agree.Goals as goal

pub returns : goal.returns
returns c = own_records_agree c.field_sizes.ensures
