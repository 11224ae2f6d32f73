use Rattle.tetra_puncture.proofs.Padding.{IsPaddedTo}
use Rattle.tetra_puncture.proofs.outputs.padded.Given as goal

abbrev pub invariant-loop-i : goal.invariant-loop-i
invariant-loop-i l = IsPaddedTo l.message l.bits l.i
