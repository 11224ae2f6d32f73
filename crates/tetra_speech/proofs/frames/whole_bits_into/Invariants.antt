use Rattle.tetra_speech.proofs.Sortings.{SortedBack}
use Rattle.tetra_speech.proofs.frames.whole_bits_into.Given as goal

abbrev pub invariant-loop-i : goal.invariant-loop-i
invariant-loop-i l = SortedBack l.sorted l.bits l.i
