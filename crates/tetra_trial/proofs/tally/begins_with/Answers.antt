use Rattle.std.proofs.Common.{arith}
use Rattle.tetra_trial.proofs.Fronts.{too_long}
use Rattle.tetra_trial.proofs.tally.begins_with.Goals as goal

pub returns-then-len : goal.returns-then-len
returns-then-len c = too_long c.args.bits.now c.args.front.now (omega arith)
