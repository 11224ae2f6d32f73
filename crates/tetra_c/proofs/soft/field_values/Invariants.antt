use Rattle.std.proofs.Common.{◌≡◌, length, map, take}
use Rattle.tetra_c.specs.Values.{clamped}
use Rattle.tetra_c.proofs.soft.field_values.Given as goal

-- the values so far
abbrev pub invariant-loop-k : goal.invariant-loop-k
invariant-loop-k l = record { size : length l.soft ≡ length l.values; values : take l.k l.soft ≡ map clamped (take l.k l.values) }
