use Rattle.std.proofs.Common.{◌≡◌, ◌<◌, ◌≤◌, ◌+◌, ℕ, false, get_or, length}
use Rattle.tetra_mother.specs.Mother.{edge}
use Rattle.tetra_mother.proofs.outs.Given as goal

abbrev pub invariant-loop-i : goal.invariant-loop-i
invariant-loop-i g l =
    record {
      size : length l.all ≡ 4;
      done : (k : ℕ) → k < l.i → get_or l.all k false ≡ edge g.M.Mother.taps l.state l.bit (k + 1);
      rest : (k : ℕ) → l.i ≤ k → get_or l.all k false ≡ false;
    }
