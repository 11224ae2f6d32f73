use Rattle.std.proofs.Common.{◌≡◌, ◌+◌, ◌++◌, length, take, drop}
use Rattle.tetra_bursts.proofs.reading.copy_values.Given as goal

abbrev pub invariant-loop-i : goal.invariant-loop-i
invariant-loop-i l = record {
  size : length l.values ≡ length l.fn.values;
  so_far : take (l.from + l.i) l.values ≡ take l.from l.fn.values ++ take l.i (drop l.at l.soft);
}
