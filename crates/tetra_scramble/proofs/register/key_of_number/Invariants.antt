use Rattle.std.proofs.Common.{◌≡◌, ◌*◌, length}
use Rattle.tetra_bits.specs.Digits.{digits}
use Rattle.tetra_scramble.specs.Register.{HoldsLast, IsWritten}
use Rattle.tetra_scramble.proofs.register.key_of_number.Given as goal

abbrev pub invariant-loop-chunk : goal.invariant-loop-chunk
invariant-loop-chunk l =
    record {
      size : length l.bits ≡ 432;
      written : IsWritten (digits 30 l.fn.number) (32 * l.chunk) l.bits;
      last : HoldsLast (digits 30 l.fn.number) (32 * l.chunk) l.register;
    }
