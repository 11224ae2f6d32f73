use Rattle.std.proofs.Common.{◌≡◌, length, map, take}
use Rattle.tetra_bits.specs.Sums.{bit_number}
use Rattle.tetra_c.proofs.readings.put_message.Given as goal

abbrev pub invariant-loop-k : goal.invariant-loop-k
invariant-loop-k l = record { size : length l.bytes ≡ 432; values : take l.k l.bytes ≡ map bit_number (take l.k l.bits) }
