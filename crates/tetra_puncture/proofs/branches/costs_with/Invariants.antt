use Rattle.std.proofs.Common.{◌≡◌, ℕ, ◌<◌, length, get_or}
use Rattle.tetra_puncture.specs.Labels.{label_at}
use Rattle.tetra_puncture.proofs.branches.costs_with.Given as goal

abbrev pub invariant-loop-state : goal.invariant-loop-state
invariant-loop-state l = record {
  long : length l.all ≡ 16;
  made : (s : ℕ) → s < l.state → get_or l.all s 0 ≡ get_or l.costs (label_at l.labels s l.bit) 0;
}
