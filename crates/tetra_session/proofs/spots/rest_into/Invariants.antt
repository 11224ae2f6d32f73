use Rattle.std.proofs.Common.{◌≡◌, ◌+◌, ◌++◌, length, take, replicate, pos}
use Rattle.tetra_bursts.specs.Fields.{second_half}
use Rattle.tetra_session.proofs.spots.rest_into.Given as goal

abbrev pub invariant-loop-i : goal.invariant-loop-i
invariant-loop-i l = record {
  size : length l.values ≡ 216 + l.i;
  so_far : l.values ≡ replicate 216 (pos 0) ++ take l.i (second_half l.dl l.soft);
}
