use Rattle.tetra_bursts.proofs.FieldLemmas.{fields_arrive}
use Rattle.tetra_bursts.proofs.laws.fields_arrive.Goals as goal

pub returns : goal.returns
returns c = fields_arrive
