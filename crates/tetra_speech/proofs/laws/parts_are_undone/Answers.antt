use Rattle.tetra_speech.specs.lemmas.Parts.{parts_are_undone}
use Rattle.tetra_speech.proofs.laws.parts_are_undone.Goals as goal

pub returns : goal.returns
returns c = parts_are_undone c.classes_are_undone.ensures
