use Rattle.std.proofs.Common.{◌≡◌, ◌<◌, ◌≤◌, ℕ}
use Rattle.tetra_mother.specs.Generators.{quarter}
use Rattle.tetra_puncture.proofs.quarter.is_quarter.Given as goal

abbrev pub invariant-loop-i : goal.invariant-loop-i
invariant-loop-i g l = record { same : (k j : ℕ) → 1 ≤ k → k < l.i → j < 5 → g.M.Mother.taps k j ≡ quarter k j }
