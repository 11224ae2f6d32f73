use Rattle.std.proofs.Common.{◌≡◌, ◌+◌, ◌-◌, pos, length}
use Rattle.tetra_bits.specs.Soft.{value_at}
use Rattle.tetra_bits.specs.lemmas.InPlace.{Begins}
use Rattle.tetra_speech.proofs.decoding.values.Given as goal

abbrev pub invariant-loop-i : goal.invariant-loop-i
invariant-loop-i l = record {
  size : length l.part ≡ l.count;
  written : Begins (λ k. value_at l.soft (l.from + (k - 1))) (pos 0) l.i l.part;
}
