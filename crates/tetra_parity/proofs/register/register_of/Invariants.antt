use Rattle.std.proofs.Common.{◌≡◌, take}
use Rattle.tetra_parity.specs.Parity.{block_rest}
use Rattle.tetra_parity.proofs.register.register_of.Given as goal

abbrev pub invariant-loop-i : goal.invariant-loop-i
invariant-loop-i g l = l.register ≡ block_rest g.row.DEGREE g.row.GENERATOR (take l.i l.bits)
