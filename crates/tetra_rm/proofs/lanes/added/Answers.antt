use Rattle.std.proofs.Common.{◌+◌, ℕ, ◌∙◌, arith, w32, Fits}
use Rattle.std.proofs.lemmas.Grind.{get_or_default_zero}
use Rattle.std.proofs.lemmas.Simd.{length-zip2}
use Rattle.tetra_rm.proofs.EightLanes.{each2_at}
use Rattle.tetra_rm.proofs.lanes.added.Goals as goal

pub overflow_add-result : goal.overflow_add-result
overflow_add-result c = each2_at (λ (x y : ℕ). Fits w32 (x + y)) c.args.a c.args.b (omega arith)
    (λ i d e h. record { fits = omega (arith, get_or_default_zero c.args.a i d h, get_or_default_zero c.args.b i e (omega arith), c.requires.fits i (omega arith)) })

pub returns-clause-long : goal.returns-clause-long
returns-clause-long c = length-zip2 (λ x y. x + y) c.args.a c.args.b (omega arith) ∙ omega arith
