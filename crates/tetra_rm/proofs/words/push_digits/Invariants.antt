use Rattle.std.proofs.Common.{◌≡◌, ◌++◌}
use Rattle.tetra_bits.specs.Digits.{digit}
use Rattle.tetra_bits.specs.Numbered.{numbered}
use Rattle.tetra_rm.proofs.words.push_digits.Given as goal

abbrev pub invariant-loop-k : goal.invariant-loop-k
invariant-loop-k l = l.bits ≡ l.fn.bits ++ numbered (digit l.n l.number) l.k
