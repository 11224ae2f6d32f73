use Rattle.std.proofs.Common.{◌≡◌}
use Rattle.tetra_bits.specs.Digits.{digits}
use Rattle.tetra_rm.specs.Code.{rows_sum}
use Rattle.tetra_rm.proofs.words.sum_of_rows.Given as goal

abbrev pub invariant-loop-r : goal.invariant-loop-r
invariant-loop-r l = l.sum ≡ rows_sum l.rows.0 (digits 14 l.message) l.r
