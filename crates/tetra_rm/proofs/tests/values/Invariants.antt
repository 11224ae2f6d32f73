use Rattle.std.proofs.Common.{◌≡◌, length}
use Rattle.tetra_rm.proofs.tests.values.Given as goal

abbrev pub invariant-loop-k : goal.invariant-loop-k
invariant-loop-k l = length l.soft ≡ l.k
