use Rattle.std.proofs.Common.{◌≡◌, ◌<◌, ◌≤◌, ℕ, true}
use Rattle.tetra_puncture.proofs.masks.is_paired.Given as goal

abbrev pub invariant-loop-out : goal.invariant-loop-out
invariant-loop-out g l = record {
  paired : (k : ℕ) → 1 ≤ k → k < l.out → (g.M.Mother.taps k 0 ≡ true) × (g.M.Mother.taps k 4 ≡ true);
}
