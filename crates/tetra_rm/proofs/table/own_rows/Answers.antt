use Rattle.std.proofs.Common.{refl}
use Rattle.std.specs.Int.Count.{ones}
use Rattle.tetra_bits.specs.Numbered.{numbered}
use Rattle.tetra_bits.specs.Polynomials.{reduced, times_x, power_rest}
use Rattle.tetra_rm.specs.Access.{generator, overall, row, access_rows}
use Rattle.tetra_rm.proofs.table.own_rows.Goals as goal

pub returns : goal.returns
unfolding access_rows numbered row overall power_rest times_x reduced generator ones
returns c = refl
