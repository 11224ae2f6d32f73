use Rattle.std.proofs.Common.{◌-◌, ◌<◌, arith, refl}
use Rattle.tetra_speech.specs.Classes.{class_0, class_1, class_2}
use Rattle.tetra_speech.specs.lemmas.ClassPlaces.{all_within, in_class_0, in_class_1, in_class_2}
use Rattle.tetra_speech.proofs.sorting.class_place.Goals as goal

pub returns-then-i-lt51-clause-value : goal.returns-then-i-lt51-clause-value
returns-then-i-lt51-clause-value c = in_class_0 c.args.i c.if-i-lt51.true

pub returns-then-i-lt51-clause-within : goal.returns-then-i-lt51-clause-within
returns-then-i-lt51-clause-within c = all_within class_0 refl c.args.i 0 c.if-i-lt51.true

pub returns-then-i-lt107-clause-value : goal.returns-then-i-lt107-clause-value
returns-then-i-lt107-clause-value c = in_class_1 c.args.i c.if-i-lt51.false c.if-i-lt107.true

pub returns-then-i-lt107-clause-within : goal.returns-then-i-lt107-clause-within
returns-then-i-lt107-clause-within c =
    let h : c.args.i - 51 < 56 = omega arith in
    all_within class_1 refl (c.args.i - 51) 0 h

pub returns-else-i-lt107-clause-value : goal.returns-else-i-lt107-clause-value
returns-else-i-lt107-clause-value c = in_class_2 c.args.i c.if-i-lt107.false

pub returns-else-i-lt107-clause-within : goal.returns-else-i-lt107-clause-within
returns-else-i-lt107-clause-within c =
    let h : c.args.i - 107 < 30 = omega arith in
    all_within class_2 refl (c.args.i - 107) 0 h
