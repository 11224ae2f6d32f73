use Rattle.std.proofs.Common.{◌≡◌, length}
use Rattle.tetra_trellis.proofs.tests.zeros_say_nothing.Given as goal

abbrev pub invariant-loop-k : goal.invariant-loop-k
invariant-loop-k g l = length l.soft ≡ l._k
