use Rattle.std.proofs.Common.{◌≡◌, false, length}
use Rattle.tetra_speech.specs.Classes.{bits_at}
use Rattle.tetra_speech.proofs.Pieces.{IsFront}
use Rattle.tetra_speech.proofs.sorting.bits_at.Given as goal

abbrev pub invariant-loop-i : goal.invariant-loop-i
invariant-loop-i l = record {
  size : length l.bits ≡ length l.places;
  written : IsFront false (bits_at l.places l.frame) l.i l.bits;
}
