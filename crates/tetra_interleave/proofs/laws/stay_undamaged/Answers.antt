use Rattle.tetra_interleave.specs.lemmas.Placed.{stay_undamaged}
use Rattle.tetra_interleave.proofs.laws.stay_undamaged.Goals as goal

pub returns : goal.returns
returns c = stay_undamaged
