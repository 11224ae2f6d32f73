use Rattle.std.proofs.Common.{arith}
use Rattle.tetra_puncture.specs.Butterflies.{IsPaired}
use Rattle.tetra_puncture.proofs.masks.is_paired.Goals as goal

pub returns : goal.returns
unfolding IsPaired
returns g c = λ _ i first last. c.loop-out.invariant.paired i first (omega (arith, c.OUTS-out-end.ensures))
