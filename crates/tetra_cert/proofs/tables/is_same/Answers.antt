use Rattle.std.proofs.Common.{◌%◌, eqb, ap, sym, ◌∙◌, w32}
use Rattle.std.proofs.lemmas.Simd.{tops_compared}
use lib.Lanes.{mask_l}
use Rattle.tetra_cert.proofs.SameRows.{same_rows}
use Rattle.tetra_cert.proofs.tables.is_same.Goals as goal

pub returns : goal.returns
returns c = λ e.
    same_rows c.args.a.now c.args.b.now c.told-a c.told-b
    (ap (λ ms. eqb (mask_l ms % 18446744073709551616) 65535) (sym (tops_compared w32 eqb c.args.a.now c.args.b.now)) ∙ e)
