use Rattle.std.proofs.Common.{◌≡◌}
use Rattle.tetra_bits.specs.Digits.{digit}
use Rattle.tetra_bits.specs.Numbered.{numbered}
use Rattle.tetra_parity.specs.Parity.{sum_of}
use Rattle.tetra_parity.proofs.number.sum_of_seven.Given as goal

abbrev pub invariant-loop-i : goal.invariant-loop-i
invariant-loop-i l = l.sum ≡ sum_of (numbered (digit 7 l.fn.number) l.i)
