use Rattle.std.proofs.Common.{◌≡◌, length, false}
use Rattle.tetra_interleave.specs.Steps.{IsTwice}
use Rattle.tetra_interleave.proofs.block.write_bits_twice.Given as goal

abbrev pub invariant-loop-i : goal.invariant-loop-i
invariant-loop-i g l = record { size : length l.twice ≡ 864; twice : IsTwice false g.row.K l.i l.x l.twice }
