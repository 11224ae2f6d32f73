use Rattle.std.proofs.Common.{◌≡◌, ℕ, ◌+◌, ◌-◌, ◌*◌, ◌^◌, ◌<◌, get_or}
use Rattle.tetra_bits.specs.Digits.{digits}
use Rattle.tetra_rm.specs.Code.{rows_sum}
use Rattle.tetra_rm.proofs.sums.part_sums.Given as goal

abbrev pub invariant-loop-k : goal.invariant-loop-k
invariant-loop-k l = record {
  doubled : l.size ≡ 2 ^ l.k;
  sums : (v : ℕ) → v < l.size → get_or l.sums v 0 ≡ rows_sum l.rows.0 (digits 14 (v * 2 ^ (14 - (l.from + l.n)))) 14;
}
