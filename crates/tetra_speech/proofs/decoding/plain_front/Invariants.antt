use Rattle.std.proofs.Common.{◌≡◌, false, length, take, map}
use Rattle.tetra_bits.specs.Plain.{is_negative}
use Rattle.tetra_speech.proofs.Pieces.{IsFront}
use Rattle.tetra_speech.proofs.decoding.plain_front.Given as goal

abbrev pub invariant-loop-i : goal.invariant-loop-i
invariant-loop-i l = record {
  size : length l.bits ≡ l.count;
  written : IsFront false (map is_negative (take l.count l.soft)) l.i l.bits;
}
