use Rattle.std.proofs.Common.{ℕ, ◌≡◌, ◌<◌, length, get_or}
use Rattle.tetra_c.specs.Receivers.{none_kept}
use Rattle.tetra_c.proofs.receiver.clear_lanes.Given as goal

-- the lanes so far
abbrev pub invariant-loop-c : goal.invariant-loop-c
invariant-loop-c l = record {
  size : length l.lanes ≡ 4;
  clear : (k : ℕ) → k < l.c → ((get_or l.lanes k none_kept).count ≡ 0) × ((get_or l.lanes k none_kept).oldest ≡ 0);
}
