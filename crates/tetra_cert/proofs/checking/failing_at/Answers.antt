use Rattle.std.proofs.Common.{refl}
use Rattle.tetra_cert.specs.Checked.{IsFirstOfStates}
use Rattle.tetra_cert.proofs.checking.failing_at.Goals as goal

pub returns-then-step_holds : goal.returns-then-step_holds
unfolding IsFirstOfStates
returns-then-step_holds g c = c.if-step_holds.ensures refl
