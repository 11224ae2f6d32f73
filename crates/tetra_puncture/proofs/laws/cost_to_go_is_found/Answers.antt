use Rattle.tetra_puncture.specs.lemmas.ToGo.{cost_to_go_is_found}
use Rattle.tetra_puncture.proofs.laws.cost_to_go_is_found.Goals as goal

pub returns : goal.returns
returns c = cost_to_go_is_found
