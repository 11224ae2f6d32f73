use Rattle.std.proofs.Common.{arith}
use Rattle.tetra_puncture.proofs.Padding.{padded_none, padded_all}
use Rattle.tetra_puncture.proofs.outputs.padded.Goals as goal

pub loop-i-init : goal.loop-i-init
loop-i-init c = padded_none c.args.message.now

pub returns : goal.returns
returns c = padded_all c.args.message.now c.loop-i.bits c.loop-i.i c.loop-i.invariant (omega arith)
