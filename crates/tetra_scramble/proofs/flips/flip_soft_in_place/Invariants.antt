use Rattle.std.proofs.Common.{◌≡◌, ◌≤◌, ℕ, pos, length}
use Rattle.tetra_bits.specs.Soft.{value_at}
use Rattle.tetra_bits.specs.lemmas.InPlace.{Begins}
use Rattle.tetra_scramble.specs.Flips.{turned_value}
use Rattle.tetra_scramble.proofs.flips.flip_soft_in_place.Given as goal

abbrev pub invariant-loop-i : goal.invariant-loop-i
invariant-loop-i l =
    record {
      size : length l.values ≡ length l.initial.values;
      written : Begins (turned_value l.initial.values l.key l.from) (pos 0) l.i l.values;
      rest : (k : ℕ) → l.i ≤ k → value_at l.values k ≡ value_at l.initial.values k;
    }
