use Rattle.std.proofs.Common.{◌≡◌, ℕ, ◌<◌, ◌≤◌, ◌+◌, ◌*◌, length, get_or, pos}
use Rattle.tetra_bits.specs.Soft.{IsSoft}
use Rattle.tetra_puncture.proofs.branches.step_values.Given as goal

abbrev pub invariant-loop-i : goal.invariant-loop-i
invariant-loop-i g l = record {
  long : length l.values ≡ 4;
  within : (k : ℕ) → k < l.i → get_or l.values k (pos 0) ≡ get_or l.wide (l.outs * l.t + k) (pos 0);
  past : (k : ℕ) → l.i ≤ k → get_or l.values k (pos 0) ≡ pos 0;
  soft : (k : ℕ) → IsSoft (get_or l.values k (pos 0));
}
