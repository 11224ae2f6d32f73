use Rattle.std.proofs.Common.{◌*◌, ◌++◌}
use Rattle.tetra_speech.specs.Frames.{whole_uncoded, whole_coded}
use Rattle.tetra_speech.proofs.Sortings.{SortedOut}
use Rattle.tetra_speech.proofs.frames.whole_sorted.Given as goal

abbrev pub invariant-loop-i : goal.invariant-loop-i
invariant-loop-i l = SortedOut 274 l.bits (whole_uncoded l.bits ++ whole_coded l.bits) l.sorted (2 * l.i)
