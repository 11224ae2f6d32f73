use Rattle.std.proofs.Common.{◌≡◌, length, map, take, All}
use Rattle.tetra_bits.specs.Soft.{IsSoft}
use Rattle.tetra_c.specs.Values.{clamped}
use Rattle.tetra_c.proofs.soft.slot_values.Given as goal

-- the values so far
abbrev pub invariant-loop-k : goal.invariant-loop-k
invariant-loop-k l = record {
  size : length l.soft ≡ 510;
  values : take l.k l.soft ≡ map clamped (take l.k l.slot);
  each : All IsSoft (take l.k l.soft);
}
