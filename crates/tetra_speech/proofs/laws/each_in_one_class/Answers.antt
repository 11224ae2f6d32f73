use Rattle.tetra_speech.specs.lemmas.ClassPlaces.{each_in_one_class}
use Rattle.tetra_speech.proofs.laws.each_in_one_class.Goals as goal

pub returns : goal.returns
returns c = each_in_one_class
