use Rattle.std.proofs.Common.{◌≡◌, drop}
use Rattle.tetra_trial.specs.Fields.{begins_with}
use Rattle.tetra_trial.proofs.tally.begins_with.Given as goal

-- what is left decides
abbrev pub invariant-loop-i : goal.invariant-loop-i
invariant-loop-i l = begins_with l.bits l.front ≡ begins_with (drop l.i l.bits) (drop l.i l.front)
