use Rattle.tetra_parity.specs.lemmas.Messages.{marks_are_right}
use Rattle.tetra_parity.proofs.laws.marks_are_right.Goals as goal

pub returns : goal.returns
returns c = marks_are_right
