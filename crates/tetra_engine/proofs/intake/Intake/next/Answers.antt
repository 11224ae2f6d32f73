use Rattle.std.proofs.Common.{rules, refl}
use Rattle.tetra_engine.proofs.Intakes.{cut_off}
use Rattle.tetra_engine.proofs.intake.Intake.next.Goals as goal

pub returns-in-Ended-clause-gives : goal.returns-in-Ended-clause-gives
returns-in-Ended-clause-gives g c = (refl, cut_off _ _ _ c.fill.new.buf (search rules) (search rules) c.in-Ended.ensures.bytes)
