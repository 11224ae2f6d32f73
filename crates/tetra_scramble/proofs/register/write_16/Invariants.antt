use Rattle.std.proofs.Common.{◌≡◌, ◌+◌, length, Bool, List}
use Rattle.tetra_scramble.specs.Register.{IsWritten, AreNext}
use Rattle.tetra_scramble.proofs.register.write_16.Given as goal

abbrev pub invariant-loop-j : goal.invariant-loop-j
invariant-loop-j l =
    record {
      size : length l.bits ≡ 432;
      key : (e : List Bool) → IsWritten e l.fn.from l.initial.bits → AreNext e l.fn.from l.next → IsWritten e (l.fn.from + l.j) l.bits;
    }
