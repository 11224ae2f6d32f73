use Rattle.std.proofs.Common.{◌≡◌, length}
use Rattle.tetra_bench.proofs.received.Given as goal

abbrev pub invariant-loop : goal.invariant-loop
invariant-loop l = length l.soft ≡ l.counter
