use Rattle.std.proofs.Common.{◌≡◌, ◌*◌, ◌≤◌, ◌%◌}
use Rattle.tetra_bits.specs.Sums.{sum_below}
use Rattle.tetra_bursts.proofs.Eights.{steps}
use Rattle.tetra_bursts.proofs.phase.turn_by_eights.Given as goal

abbrev pub invariant-loop-j : goal.invariant-loop-j
invariant-loop-j l = record { so_far : l.sum ≡ sum_below (8 * l.j) (steps l.slot l.first); small : l.sum ≤ 104 * l.j; even : l.sum % 2 ≡ 0 }
