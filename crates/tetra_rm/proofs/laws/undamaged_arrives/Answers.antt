use Rattle.tetra_rm.specs.lemmas.Words.{arrives}
use Rattle.tetra_rm.proofs.laws.undamaged_arrives.Goals as goal

pub returns : goal.returns
returns c = arrives
