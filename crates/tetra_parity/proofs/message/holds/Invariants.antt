use Rattle.std.proofs.Common.{◌≡◌, ℕ, ◌+◌, ◌<◌}
use Rattle.tetra_bits.specs.Digits.{digit}
use Rattle.tetra_bits.specs.Order.{bit_at}
use Rattle.tetra_parity.proofs.message.holds.Given as goal

abbrev pub invariant-loop-i : goal.invariant-loop-i
invariant-loop-i l = (k : ℕ) → k < l.i → bit_at l.message (l.size + k) ≡ digit l.width l.number (k + 1)
