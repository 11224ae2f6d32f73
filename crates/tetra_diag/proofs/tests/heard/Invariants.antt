use Rattle.std.proofs.Common.{◌≡◌, length}
use Rattle.tetra_diag.proofs.tests.heard.Given as goal

abbrev pub invariant-loop-k : goal.invariant-loop-k
invariant-loop-k l = length l.all ≡ l.k
