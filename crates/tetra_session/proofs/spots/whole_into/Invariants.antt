use Rattle.std.proofs.Common.{◌≡◌, ◌+◌, ◌++◌, length, take}
use Rattle.tetra_bursts.specs.Fields.{first_half, second_half}
use Rattle.tetra_session.proofs.spots.whole_into.Given as goal

abbrev pub invariant-loop-i : goal.invariant-loop-i
invariant-loop-i l = record {
  size : length l.values ≡ 216 + l.i;
  so_far : l.values ≡ first_half l.dl l.soft ++ take l.i (second_half l.dl l.soft);
}
