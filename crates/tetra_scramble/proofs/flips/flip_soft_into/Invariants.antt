use Rattle.std.proofs.Common.{◌≡◌, pos, length}
use Rattle.tetra_bits.specs.lemmas.InPlace.{Begins}
use Rattle.tetra_scramble.specs.Flips.{turned_value}
use Rattle.tetra_scramble.proofs.flips.flip_soft_into.Given as goal

abbrev pub invariant-loop-i : goal.invariant-loop-i
invariant-loop-i l = record { size : length l.values ≡ length l.x; written : Begins (turned_value l.x l.key l.from) (pos 0) l.i l.values }
