use Rattle.std.proofs.Common.{◌≡◌, ℕ, ◌+◌, ◌-◌, ◌*◌, ◌/◌, ◌^◌, ◌<◌, get_or}
use Rattle.std.specs.Int.Bits.{bit_xor}
use Rattle.tetra_rm.specs.Search.{part_metric, lane, AreLanes}
use Rattle.tetra_rm.proofs.keys.fill_lane_keys.Given as goal

abbrev pub invariant-loop-k : goal.invariant-loop-k
invariant-loop-k l = record {
  doubled : l.size ≡ 2 ^ l.k;
  lanes : AreLanes l.keys;
  keys : (v j : ℕ) → v < l.size → j < 8 → lane l.keys v j ≡ part_metric l.soft (l.from + 8 - l.k) l.k (bit_xor v (get_or l.sums j 0 / 2 ^ l.place)) * 16384;
}
