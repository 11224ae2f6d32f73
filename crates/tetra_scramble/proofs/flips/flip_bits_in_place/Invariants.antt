use Rattle.std.proofs.Common.{◌≡◌, ◌≤◌, ℕ, false, length}
use Rattle.tetra_bits.specs.Order.{bit_at}
use Rattle.tetra_bits.specs.lemmas.InPlace.{Begins}
use Rattle.tetra_scramble.specs.Flips.{flipped_bit}
use Rattle.tetra_scramble.proofs.flips.flip_bits_in_place.Given as goal

abbrev pub invariant-loop-i : goal.invariant-loop-i
invariant-loop-i l =
    record {
      size : length l.bits ≡ length l.initial.bits;
      written : Begins (flipped_bit l.initial.bits l.key l.from) false l.i l.bits;
      rest : (k : ℕ) → l.i ≤ k → bit_at l.bits k ≡ bit_at l.initial.bits k;
    }
