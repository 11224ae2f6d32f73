use Rattle.std.proofs.Common.{◌≡◌, length, map, take, All}
use Rattle.tetra_bits.specs.Soft.{soft_value, IsSoft}
use Rattle.tetra_engine.proofs.slots.read_values.Given as goal

-- the values so far
abbrev pub invariant-loop-i : goal.invariant-loop-i
invariant-loop-i l = record {
  size : length l.soft ≡ 510;
  values : take l.i l.soft ≡ map soft_value (take l.i l.bytes);
  each : All IsSoft (take l.i l.soft);
}
