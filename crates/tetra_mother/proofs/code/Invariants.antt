use Rattle.std.proofs.Common.{◌≡◌}
use Rattle.tetra_mother.specs.Mother.{sum2, term}
use Rattle.tetra_mother.proofs.code.Given as goal

abbrev pub invariant-loop-j : goal.invariant-loop-j
invariant-loop-j g l = l.sum ≡ sum2 (term g.M.Mother.taps l.bits l.step l.out) l.j
