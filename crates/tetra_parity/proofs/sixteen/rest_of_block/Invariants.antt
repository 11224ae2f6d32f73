use Rattle.std.proofs.Common.{◌≡◌, take}
use Rattle.tetra_parity.specs.Parity.{poly_sum, block_term, generator16}
use Rattle.tetra_parity.proofs.sixteen.rest_of_block.Given as goal

abbrev pub invariant-loop-i : goal.invariant-loop-i
invariant-loop-i l = l.sum ≡ poly_sum l.i (block_term 16 generator16 (take l.size l.bits))
