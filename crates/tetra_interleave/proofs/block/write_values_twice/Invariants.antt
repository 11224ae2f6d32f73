use Rattle.std.proofs.Common.{◌≡◌, ◌<◌, ℕ, length, pos}
use Rattle.tetra_bits.specs.Soft.{IsSoft, value_at}
use Rattle.tetra_interleave.specs.Steps.{IsTwice}
use Rattle.tetra_interleave.proofs.block.write_values_twice.Given as goal

abbrev pub invariant-loop-i : goal.invariant-loop-i
invariant-loop-i g l = record { size : length l.twice ≡ 864; twice : IsTwice (pos 0) g.row.K l.i l.x l.twice; soft : (k : ℕ) → k < l.i → IsSoft (value_at l.x k) }
