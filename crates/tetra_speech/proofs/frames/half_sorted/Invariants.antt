use Rattle.std.proofs.Common.{◌++◌}
use Rattle.tetra_speech.specs.Frames.{half_uncoded, half_coded}
use Rattle.tetra_speech.proofs.Sortings.{SortedOut}
use Rattle.tetra_speech.proofs.frames.half_sorted.Given as goal

abbrev pub invariant-loop-i : goal.invariant-loop-i
invariant-loop-i l = SortedOut 137 l.bits (half_uncoded l.bits ++ half_coded l.bits) l.sorted l.i
