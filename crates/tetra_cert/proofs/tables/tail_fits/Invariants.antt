use Rattle.std.proofs.Common.{◌≤◌, ◌<◌, ◌+◌, ℕ, [], get_or}
use Rattle.tetra_puncture.specs.Butterflies.{IsZeroRow}
use Rattle.tetra_cert.proofs.tables.tail_fits.Given as goal

abbrev pub invariant-loop-t : goal.invariant-loop-t
invariant-loop-t g l = record {
  fits : (u : ℕ) → l.steps ≤ u + 4 → u < l.t → IsZeroRow g.P.Plan.plan l.wide u (get_or l.table (u + 1) []) (get_or l.table u []);
}
