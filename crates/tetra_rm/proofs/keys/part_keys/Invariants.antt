use Rattle.std.proofs.Common.{◌≡◌, ℕ, ◌+◌, ◌-◌, ◌*◌, ◌^◌, ◌<◌, get_or}
use Rattle.tetra_rm.specs.Search.{part_metric}
use Rattle.tetra_rm.proofs.keys.part_keys.Given as goal

abbrev pub invariant-loop-k : goal.invariant-loop-k
invariant-loop-k l = record {
  doubled : l.size ≡ 2 ^ l.k;
  weighed : l.weight ≡ l.size * l.unit;
  keys : (v : ℕ) → v < l.size → get_or l.keys v 0 ≡ part_metric l.soft (l.from + l.n - l.k) l.k v * 16384 + v * l.unit;
}
