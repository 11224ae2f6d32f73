use Rattle.tetra_speech.specs.lemmas.Sorted.{classes_are_undone}
use Rattle.tetra_speech.proofs.laws.classes_are_undone.Goals as goal

pub returns : goal.returns
returns c = classes_are_undone c.each_in_one_class.ensures c.all_are_undone.ensures
