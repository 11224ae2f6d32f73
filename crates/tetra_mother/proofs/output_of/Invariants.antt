use Rattle.std.proofs.Common.{◌≡◌}
use Rattle.tetra_mother.specs.Mother.{sum2, edge_term}
use Rattle.tetra_mother.proofs.output_of.Given as goal

abbrev pub invariant-loop-j : goal.invariant-loop-j
invariant-loop-j g l = l.sum ≡ sum2 (edge_term g.M.Mother.taps l.state l.bit l.out) l.j
