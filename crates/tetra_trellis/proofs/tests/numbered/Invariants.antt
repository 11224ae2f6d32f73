use Rattle.std.proofs.Common.{◌≡◌, length}
use Rattle.tetra_trellis.proofs.tests.numbered.Given as goal

abbrev pub invariant-loop-i : goal.invariant-loop-i
invariant-loop-i l = length l.bits ≡ l.i
