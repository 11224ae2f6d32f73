use Rattle.std.proofs.Common.{◌≡◌, ◌+◌, ◌*◌, length, take}
use Rattle.arrayvec.specs.ArrayVec.{array_vec_len}
use Rattle.tetra_records.proofs.readings.add_zeros.Given as goal

abbrev pub invariant-loop-t : goal.invariant-loop-t
invariant-loop-t g l =
    record {
      front : take (length l.initial.out.items) l.out.items ≡ l.initial.out.items;
      len : array_vec_len l.out ≡ array_vec_len l.initial.out + 1024 * l.t;
    }
