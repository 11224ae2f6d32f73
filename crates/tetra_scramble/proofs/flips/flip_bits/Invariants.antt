use Rattle.std.proofs.Common.{◌≡◌, false, length}
use Rattle.tetra_bits.specs.lemmas.InPlace.{Begins}
use Rattle.tetra_scramble.specs.Flips.{flipped_bit}
use Rattle.tetra_scramble.proofs.flips.flip_bits.Given as goal

abbrev pub invariant-loop-i : goal.invariant-loop-i
invariant-loop-i l = record { size : length l.bits ≡ length l.x; written : Begins (flipped_bit l.x l.key l.from) false l.i l.bits }
