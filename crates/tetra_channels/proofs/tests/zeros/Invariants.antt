use Rattle.std.proofs.Common.{◌≡◌, length}
use Rattle.tetra_channels.proofs.tests.zeros.Given as goal

abbrev pub invariant-loop-k : goal.invariant-loop-k
invariant-loop-k l = length l.block ≡ l._k
