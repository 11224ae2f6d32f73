use Rattle.tetra_puncture.specs.lemmas.Checking.{CheckedRow}
use Rattle.tetra_cert.proofs.rules.first_of_states.Given as goal

abbrev pub invariant-loop-state : goal.invariant-loop-state
invariant-loop-state g l = CheckedRow g.P.Plan.plan l.wide l.message l.table l.t l.state
