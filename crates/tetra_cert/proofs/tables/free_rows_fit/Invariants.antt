use Rattle.std.proofs.Common.{◌≡◌, ◌<◌, ℕ}
use Rattle.tetra_bits.specs.Order.{bit_at}
use Rattle.tetra_puncture.specs.Butterflies.{lane_of}
use Rattle.tetra_puncture.specs.Trellis.{state_passed}
use Rattle.tetra_cert.specs.Tables.{RowFits}
use Rattle.tetra_cert.proofs.tables.free_rows_fit.Given as goal

abbrev pub invariant-loop-t : goal.invariant-loop-t
invariant-loop-t g l = record {
  lane_is : l.lane ≡ lane_of (state_passed l.message l.t);
  fits : (u : ℕ) → u < l.t → RowFits g.P.Plan.plan l.wide l.table u (lane_of (state_passed l.message u)) (bit_at l.message u);
}
