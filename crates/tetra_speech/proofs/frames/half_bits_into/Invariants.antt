use Rattle.tetra_speech.proofs.Sortings.{HalfBack}
use Rattle.tetra_speech.proofs.frames.half_bits_into.Given as goal

abbrev pub invariant-loop-i : goal.invariant-loop-i
invariant-loop-i l = HalfBack l.sorted l.bits l.i
