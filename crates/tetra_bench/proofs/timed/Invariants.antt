use Rattle.std.proofs.Common.{◌≡◌, ◌+◌, length}
use Rattle.tetra_bench.proofs.timed.Given as goal

abbrev pub invariant-loop : goal.invariant-loop
invariant-loop g l = record { message : length l.message + 4 ≡ 288; rows : length l.potentials ≡ 288 + 1 }
