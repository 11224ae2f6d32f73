use Rattle.std.proofs.Common.{◌≡◌, ◌+◌, ◌-◌, false, length}
use Rattle.tetra_bits.specs.Order.{bit_at}
use Rattle.tetra_bits.specs.lemmas.InPlace.{Begins}
use Rattle.tetra_speech.proofs.frames.part.Given as goal

abbrev pub invariant-loop-i : goal.invariant-loop-i
invariant-loop-i l = record {
  size : length l.part ≡ l.count;
  written : Begins (λ k. bit_at l.bits (l.from + (k - 1))) false l.i l.part;
}
