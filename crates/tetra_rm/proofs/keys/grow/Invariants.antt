use Rattle.std.proofs.Common.{◌≡◌, ℕ, ◌+◌, ◌<◌, ◌≤◌, List, get_or}
use Rattle.tetra_rm.proofs.keys.grow.Given as goal

-- the entries below a place are doubled, and those from there on stand as before
pub record Grown (old now : List ℕ) (size zero one at : ℕ) : Type 0 where
  pub first : (k : ℕ) → k < at → get_or now k 0 ≡ get_or old k 0 + zero
  pub second : (k : ℕ) → k < at → get_or now (size + k) 0 ≡ get_or old k 0 + one
  pub left : (k : ℕ) → at ≤ k → k < size → get_or now k 0 ≡ get_or old k 0

abbrev pub invariant-loop-at : goal.invariant-loop-at
invariant-loop-at l = Grown l.fn.keys l.keys l.size l.zero l.one l.at
