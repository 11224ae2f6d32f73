use Rattle.std.proofs.Common.{◌≡◌, length, take}
use Rattle.tetra_trial.proofs.passage.widen.Given as goal

-- the values so far
abbrev pub invariant-loop-i : goal.invariant-loop-i
invariant-loop-i l = record { size : length l.soft ≡ 510; values : take l.i l.soft ≡ take l.i l.values }
