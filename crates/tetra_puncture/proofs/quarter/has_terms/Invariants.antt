use Rattle.std.proofs.Common.{◌≡◌, ◌<◌, ℕ}
use Rattle.tetra_mother.specs.Generators.{quarter}
use Rattle.tetra_puncture.proofs.quarter.has_terms.Given as goal

abbrev pub invariant-loop-j : goal.invariant-loop-j
invariant-loop-j g l = record { same : (k : ℕ) → k < l.j → g.M.Mother.taps l.i k ≡ quarter l.i k }
