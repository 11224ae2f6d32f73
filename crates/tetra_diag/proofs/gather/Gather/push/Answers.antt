use Rattle.std.proofs.Common.{refl}
use Rattle.tetra_diag.proofs.gather.Gather.push.Goals as goal

pub returns-then-push_into-clause-within : goal.returns-then-push_into-clause-within
returns-then-push_into-clause-within g c = λ top words h all. c.if-push_into.ensures.within top words h all refl
