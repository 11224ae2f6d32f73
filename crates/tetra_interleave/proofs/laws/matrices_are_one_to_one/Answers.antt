use Rattle.tetra_interleave.specs.lemmas.Matrices.{matrices_are_one_to_one}
use Rattle.tetra_interleave.proofs.laws.matrices_are_one_to_one.Goals as goal

pub returns : goal.returns
returns c = matrices_are_one_to_one
