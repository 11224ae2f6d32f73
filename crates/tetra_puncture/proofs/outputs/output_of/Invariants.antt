use Rattle.std.proofs.Common.{◌≡◌, ◌<◌, ℕ, length}
use Rattle.tetra_bits.specs.Order.{bit_at}
use Rattle.tetra_puncture.specs.Outputs.{taps_sum}
use Rattle.tetra_puncture.proofs.outputs.output_of.Given as goal

abbrev pub invariant-loop-t : goal.invariant-loop-t
invariant-loop-t g l = record { size : length l.output ≡ 292; sums : (t : ℕ) → t < l.t → bit_at l.output t ≡ taps_sum l.bits l.taps t }
