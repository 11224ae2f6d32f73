use Rattle.std.proofs.Common.{◌≡◌}
use Rattle.tetra_parity.specs.Parity.{poly_sum, ones_term}
use Rattle.tetra_parity.proofs.sixteen.rest_of_ones.Given as goal

abbrev pub invariant-loop-i : goal.invariant-loop-i
invariant-loop-i l = l.sum ≡ poly_sum l.i (ones_term l.size)
