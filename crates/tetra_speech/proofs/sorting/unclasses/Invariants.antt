use Rattle.std.proofs.Common.{◌≡◌, ◌+◌, ◌-◌, ◌<◌, ◌++◌, ℕ, length}
use Rattle.tetra_bits.specs.Order.{bit_at}
use Rattle.tetra_speech.specs.Classes.{class_place}
use Rattle.tetra_speech.proofs.sorting.unclasses.Given as goal

abbrev pub invariant-loop-i : goal.invariant-loop-i
invariant-loop-i l = record {
  size : length l.frame ≡ 137;
  written : (k : ℕ) → k < l.i → bit_at l.frame (class_place (k + 1) - 1) ≡ bit_at (l.c.zero ++ l.c.one ++ l.c.two) k;
}
