use Rattle.std.proofs.Common.{◌*◌, ◌^◌}
use Rattle.tetra_trial.specs.Kept.{KeptStands}
use Rattle.tetra_trial.specs.Passage.{PassageStands}
use Rattle.tetra_trial.specs.Tallies.{AtMost}
use Rattle.tetra_trial.specs.Trials.{blocks_before}
use Rattle.tetra_trial.proofs.Summing.{Counted}
use Rattle.tetra_trial.proofs.counting.trial.Given as goal

-- so many slots have passed, are kept and are counted
abbrev pub invariant-loop : goal.invariant-loop
invariant-loop l = record {
  passage : PassageStands l.settings l.counter l.passage;
  kept : KeptStands l.settings (blocks_before l.settings l.counter) l.kept;
  counted : Counted l.settings l.counter l.tally;
  most : AtMost (l.counter * 2 ^ 37) l.tally;
}
