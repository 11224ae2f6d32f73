use Rattle.std.proofs.Common.{ℕ, ◌<◌, ◌≤◌, ◌^◌}
use Rattle.std.specs.Prelude.{slice_index}
use Rattle.tetra_rows.proofs.steps.row_before_last.Given as goal

-- no entry so far is above the greatest that a row may have
abbrev pub invariant-loop-s : goal.invariant-loop-s
invariant-loop-s g l = (k : ℕ) → k < l.s → slice_index l.after k ≤ 2 ^ 31
