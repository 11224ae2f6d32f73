use Rattle.std.proofs.Common.{◌≡◌, ℕ, ◌^◌, ◌<◌, get_or, length}
use Rattle.tetra_rm.specs.Search.{IsLeastBelow, key_in_middle}
use Rattle.tetra_rm.proofs.searching.least_in_middle.Given as goal

abbrev pub invariant-loop-at : goal.invariant-loop-at
invariant-loop-at l = record {
  long : length l.least ≡ 8;
  least : (j : ℕ) → j < 8 → IsLeastBelow (key_in_middle l.first l.second l.middle l.sum j) l.at (get_or l.least j 0);
  small : (j : ℕ) → j < 8 → get_or l.least j 0 < 2 ^ 31;
}
