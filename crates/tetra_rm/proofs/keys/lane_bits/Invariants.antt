use Rattle.std.proofs.Common.{◌≡◌, ℕ, ◌*◌, ◌^◌, ◌<◌, get_or, length}
use Rattle.tetra_bits.specs.Cost.{cost}
use Rattle.tetra_bits.specs.Sums.{add2}
use Rattle.tetra_rm.specs.Search.{lane_bit}
use Rattle.tetra_rm.proofs.keys.lane_bits.Given as goal

abbrev pub invariant-loop-at : goal.invariant-loop-at
invariant-loop-at l = record {
  long : length l.keys ≡ 8;
  keys : (j : ℕ) → j < l.at → get_or l.keys j 0 ≡ cost l.value (add2 (lane_bit l.sums l.place j) l.turn) * 16384;
  small : (j : ℕ) → j < l.at → get_or l.keys j 0 < 2 ^ 31;
}
