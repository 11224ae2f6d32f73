use Rattle.std.proofs.Common.{refl}
use Rattle.tetra_speech.specs.Classes.{class_2}
use Rattle.tetra_speech.specs.lemmas.ClassPlaces.{all_within}
use Rattle.tetra_speech.proofs.sorting.class_two.Goals as goal

pub bits_at-requires-clause-within : goal.bits_at-requires-clause-within
bits_at-requires-clause-within c = all_within class_2 refl
