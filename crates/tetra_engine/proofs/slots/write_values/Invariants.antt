use Rattle.std.proofs.Common.{◌≡◌, length, map, take}
use Rattle.tetra_engine.specs.Slots.{value_byte}
use Rattle.tetra_engine.proofs.slots.write_values.Given as goal

-- the bytes so far
abbrev pub invariant-loop-i : goal.invariant-loop-i
invariant-loop-i l = record { size : length l.bytes ≡ 510; values : take l.i l.bytes ≡ map value_byte (take l.i l.values) }
