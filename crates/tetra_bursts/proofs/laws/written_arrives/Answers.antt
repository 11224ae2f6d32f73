use Rattle.tetra_bursts.proofs.FieldLemmas.{written_arrives}
use Rattle.tetra_bursts.proofs.laws.written_arrives.Goals as goal

pub returns : goal.returns
returns c = written_arrives
