use Rattle.std.proofs.Common.{◌≡◌, ◌+◌, false, length}
use Rattle.tetra_bits.specs.Packed.{unpacked_bit}
use Rattle.tetra_bits.specs.lemmas.InPlace.{Begins}
use Rattle.tetra_bits.proofs.packing.take.Given as goal

abbrev pub invariant-loop-i : goal.invariant-loop-i
invariant-loop-i l = record { size : length l.bits ≡ length l.initial.bits; written : Begins (unpacked_bit l.bytes) false (l.first + l.i) l.bits }
