use Rattle.tetra_records.proofs.Beginnings.{unambiguous}
use Rattle.tetra_records.proofs.laws.records_are_unambiguous.Goals as goal

pub returns : goal.returns
returns c = unambiguous
