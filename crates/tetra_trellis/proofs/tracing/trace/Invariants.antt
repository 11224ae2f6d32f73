use Rattle.std.proofs.Common.{◌≡◌, length}
use Rattle.tetra_trellis.proofs.Followed.{Followed}
use Rattle.tetra_trellis.proofs.tracing.trace.Given as goal

abbrev pub invariant-loop-t : goal.invariant-loop-t
invariant-loop-t g l = record {
  long : length l.message ≡ l.free;
  followed : Followed l.marks l.message l.lane l.t;
}
