use Rattle.std.proofs.Common.{◌≡◌, ◌++◌}
use Rattle.tetra_bits.specs.Digits.{digit}
use Rattle.tetra_bits.specs.Numbered.{numbered}
use Rattle.tetra_parity.proofs.message.with_parity.Given as goal

abbrev pub invariant-loop-i : goal.invariant-loop-i
invariant-loop-i l = l.message ≡ l.block ++ numbered (digit l.width l.number) l.i
