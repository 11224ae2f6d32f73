use Rattle.std.proofs.Common.{◌≡◌, length}
use Rattle.tetra_puncture.proofs.tests.one_and_zeros.Given as goal

abbrev pub invariant-loop-k : goal.invariant-loop-k
invariant-loop-k l = length l.message ≡ l._k
