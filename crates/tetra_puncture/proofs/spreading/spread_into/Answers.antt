use Rattle.std.proofs.Common.{◌+◌, ◌-◌, ◌*◌, ◌/◌, arith}
use Rattle.tetra_puncture.specs.lemmas.Front.{spread_all}
use Rattle.tetra_puncture.specs.lemmas.Values.{spread_is_values}
use Rattle.tetra_puncture.proofs.spreading.spread_into.Goals as goal

pub returns-clause-placed : goal.returns-clause-placed
returns-clause-placed g c =
    let law = g.met.P.Plan in
    spread_all g.P.Plan.plan c.args.soft.now c.put-2.new.wide (12 * (c.SENT-turns.result / 12) + (c.SENT.result - 12 * (c.SENT-turns.result / 12))) c.put-2.ensures.placed (omega (arith, law.same_sent, c.SENT-turns.ensures, c.SENT.ensures))

pub returns-clause-values : goal.returns-clause-values
returns-clause-values g c = spread_is_values g.P.Plan.plan c.args.soft.now c.put-2.new.wide (returns-clause-placed g c)
