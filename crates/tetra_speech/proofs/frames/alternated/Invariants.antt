use Rattle.std.proofs.Common.{◌≡◌, ◌*◌, false, length}
use Rattle.tetra_speech.specs.Frames.{alternated}
use Rattle.tetra_speech.proofs.Pieces.{IsFront}
use Rattle.tetra_speech.proofs.frames.alternated.Given as goal

abbrev pub invariant-loop-i : goal.invariant-loop-i
invariant-loop-i l = record {
  size : length l.both ≡ 2 * length l.a;
  written : IsFront false (alternated l.a l.b) (2 * l.i) l.both;
}
