use Rattle.std.proofs.Common.{◌≡◌, ℕ, ◌<◌, ◌+◌, ◌/◌, ◌%◌, length, get_or}
use Rattle.tetra_puncture.proofs.branches.label_costs.Given as goal

abbrev pub invariant-loop-label : goal.invariant-loop-label
invariant-loop-label l = record {
  long : length l.costs ≡ 16;
  made : (k : ℕ) → k < l.label → get_or l.costs k 0 ≡ get_or l.first (k / 4) 0 + get_or l.second (k % 4) 0;
}
