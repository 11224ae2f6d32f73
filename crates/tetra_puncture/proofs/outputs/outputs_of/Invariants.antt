use Rattle.std.proofs.Common.{◌≡◌, length}
use Rattle.tetra_puncture.specs.Outputs.{AreOutputs}
use Rattle.tetra_puncture.proofs.outputs.outputs_of.Given as goal

abbrev pub invariant-loop-i : goal.invariant-loop-i
invariant-loop-i g l = record { size : length l.outputs ≡ 4; made : AreOutputs g.M.Mother.taps l.i l.message l.outputs }
