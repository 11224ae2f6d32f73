use Rattle.tetra_puncture.proofs.Padding.{sum_is}
use Rattle.tetra_puncture.proofs.outputs.sum_at.Goals as goal

pub returns : goal.returns
returns c = sum_is c.args.bits.now c.args.taps c.args.t
