use Rattle.std.proofs.Common.{◌%◌, not, eqb, ltb, ap, sym, ◌∙◌, w32}
use Rattle.std.proofs.lemmas.Simd.{tops_compared}
use lib.Lanes.{mask_l}
use Rattle.tetra_cert.proofs.SixteenLanes.{none_above}
use Rattle.tetra_cert.proofs.lanes.some_above.Goals as goal

pub returns : goal.returns
returns c = λ e. none_above c.args.a c.args.b c.requires.0 c.requires.1 (ap (λ ms. not (eqb (mask_l ms % 18446744073709551616) 0)) (sym (tops_compared w32 ltb c.args.b c.args.a)) ∙ e)
