use Rattle.std.proofs.Common.{◌≤◌, ◌*◌}
use Rattle.tetra_trellis.proofs.tests.metric.Given as goal

abbrev pub invariant-loop-j : goal.invariant-loop-j
invariant-loop-j g l = l.sum ≤ 127 * l.j
