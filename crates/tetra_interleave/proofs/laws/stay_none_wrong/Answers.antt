use Rattle.tetra_interleave.specs.lemmas.Placed.{stay_none_wrong}
use Rattle.tetra_interleave.proofs.laws.stay_none_wrong.Goals as goal

pub returns : goal.returns
returns c = stay_none_wrong
