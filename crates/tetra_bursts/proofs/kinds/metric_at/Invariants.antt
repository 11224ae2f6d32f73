use Rattle.std.proofs.Common.{◌≡◌, ◌≤◌, ◌*◌, length, take, drop}
use Rattle.std.specs.Prelude.{nat_abs}
use Rattle.tetra_bits.specs.declared.soft.TheConstants.{SOFT_MAX}
use Rattle.tetra_bits.specs.Sums.{sum_below}
use Rattle.tetra_bits.specs.Cost.{cost_at}
use Rattle.tetra_bursts.specs.Slot.{text_bits}
use Rattle.tetra_bursts.proofs.kinds.metric_at.Given as goal

abbrev pub invariant-loop-i : goal.invariant-loop-i
invariant-loop-i l = record { so_far : l.total ≡ sum_below l.i (cost_at (take (length l.text) (drop l.at l.soft)) (text_bits l.text)); small : l.total ≤ nat_abs SOFT_MAX * l.i }
