use Rattle.tetra_puncture.specs.lemmas.OwnCosts.{costs_to_go_are_accepted}
use Rattle.tetra_puncture.proofs.laws.costs_to_go_are_accepted.Goals as goal

pub returns : goal.returns
returns c = costs_to_go_are_accepted
