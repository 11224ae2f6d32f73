use Rattle.std.proofs.Common.{◌≡◌, take}
use Rattle.std.specs.List.{list_all}
use Rattle.tetra_c.specs.Bytes.{is_bit}
use Rattle.tetra_c.proofs.bytes.are_bits.Given as goal

abbrev pub invariant-loop-k : goal.invariant-loop-k
invariant-loop-k l = l.all ≡ list_all is_bit (take l.k l.bytes)
