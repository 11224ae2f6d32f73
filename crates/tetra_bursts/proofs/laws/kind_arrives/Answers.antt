use Rattle.tetra_bursts.proofs.KindLemmas.{kind_arrives}
use Rattle.tetra_bursts.proofs.laws.kind_arrives.Goals as goal

pub returns : goal.returns
returns c = kind_arrives
