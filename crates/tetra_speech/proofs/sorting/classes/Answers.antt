use Rattle.std.proofs.Common.{refl}
use Rattle.tetra_speech.specs.Classes.{class_0, class_1, class_2}
use Rattle.tetra_speech.specs.lemmas.ClassPlaces.{all_within}
use Rattle.tetra_speech.proofs.sorting.classes.Goals as goal

pub bits_at-requires-clause-within : goal.bits_at-requires-clause-within
bits_at-requires-clause-within c = all_within class_0 refl

pub bits_at-requires-2-clause-within : goal.bits_at-requires-2-clause-within
bits_at-requires-2-clause-within c = all_within class_1 refl

pub bits_at-requires-3-clause-within : goal.bits_at-requires-3-clause-within
bits_at-requires-3-clause-within c = all_within class_2 refl
