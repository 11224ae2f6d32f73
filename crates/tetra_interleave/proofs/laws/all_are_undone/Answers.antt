use Rattle.tetra_interleave.specs.lemmas.Placed.{all_are_undone}
use Rattle.tetra_interleave.proofs.laws.all_are_undone.Goals as goal

pub returns : goal.returns
returns c = all_are_undone
