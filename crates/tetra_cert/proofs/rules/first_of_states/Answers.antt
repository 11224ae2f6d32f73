use Rattle.std.proofs.Common.{arith}
use Rattle.tetra_puncture.specs.lemmas.Checking.{row_none, row_more}
use Rattle.tetra_cert.specs.Checked.{IsFirstOfRules, IsFirstOfStates}
use Rattle.tetra_cert.proofs.rules.first_of_states.Goals as goal

pub loop-state-init : goal.loop-state-init
loop-state-init g c = row_none g.P.Plan.plan c.args.wide.now c.args.message.now c.args.table.now c.args.t

pub loop-state-preserved : goal.loop-state-preserved
unfolding IsFirstOfRules
loop-state-preserved g c = row_more g.P.Plan.plan c.args.wide.now c.args.message.now c.args.table.now c.args.t c.loop-state.state c.loop-state.invariant c.in_default.ensures

pub returns-in-Some : goal.returns-in-Some
unfolding IsFirstOfStates
returns-in-Some g c = (omega arith, c.loop-state.invariant.earlier, c.in-Some.ensures)

pub returns : goal.returns
unfolding IsFirstOfStates
returns g c = λ s rule h. c.loop-state.invariant.earlier s rule (omega arith)
