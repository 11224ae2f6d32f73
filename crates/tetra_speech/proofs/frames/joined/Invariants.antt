use Rattle.std.proofs.Common.{◌≡◌, ◌+◌, ◌++◌, false, length}
use Rattle.tetra_speech.proofs.Pieces.{IsFront}
use Rattle.tetra_speech.proofs.frames.joined.Given as goal

abbrev pub invariant-loop-i : goal.invariant-loop-i
invariant-loop-i l = record {
  size : length l.all ≡ length l.first + length l.second;
  written : IsFront false (l.first ++ l.second) (l.front + l.i) l.all;
}
