use Rattle.std.proofs.Common.{◌≡◌, ℕ, ◌<◌, length, get_or}
use Rattle.tetra_puncture.specs.Labels.{branch_label}
use Rattle.tetra_puncture.proofs.branches.labels_of.Given as goal

abbrev pub invariant-loop-state : goal.invariant-loop-state
invariant-loop-state g l = record {
  long : length l.labels ≡ 16;
  made : (s : ℕ) → s < l.state → get_or l.labels s 0 ≡ branch_label g.M.Mother.taps g.M.Mother.OUTS s l.bit;
}
