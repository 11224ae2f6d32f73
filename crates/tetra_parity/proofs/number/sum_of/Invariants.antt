use Rattle.std.proofs.Common.{◌≡◌, take}
use Rattle.tetra_parity.specs.Parity.{sum_of}
use Rattle.tetra_parity.proofs.number.sum_of.Given as goal

abbrev pub invariant-loop-i : goal.invariant-loop-i
invariant-loop-i l = l.sum ≡ sum_of (take l.i l.bits)
