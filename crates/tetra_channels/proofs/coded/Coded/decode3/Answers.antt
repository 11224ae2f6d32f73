use Rattle.std.proofs.Common.{◌*◌, ◌≤◌, arith, subst, sym, ap, ◌∙◌}
use Rattle.std.proofs.lemmas.Option.{same_Some}
use Rattle.tetra_bits.specs.Readings.{entry}
use Rattle.tetra_parity.specs.Marks.{mark_of}
use Rattle.tetra_channels.specs.Channels.{coded}
use Rattle.tetra_channels.proofs.Readings.{is_coded_reading, best_ranks}
use Rattle.tetra_channels.proofs.coded.Coded.decode3.Goals as goal

pub returns-clause-reading : goal.returns-clause-reading
returns-clause-reading g c =
    let soft = c.args.soft.now in
    let solved = c.solve-solved.ensures in
    is_coded_reading (coded g.row.PAR g.row.A g.P.Plan.plan) soft c.mark.result c.solve-solved.result.metric
    c.solve-solved.result.message c.solve-solved.result.potentials (c.mark.ensures.value ∙ ap (λ k. mark_of k c.solve-solved.result.message) c.parity_of.ensures) solved.metric solved.message solved.exact

pub returns-clause-first_least : goal.returns-clause-first_least
returns-clause-first_least g c = best_ranks g.P.Plan.plan c.args.soft.now c.solve-solved.result.message c.solve-solved.ensures.message

pub returns-clause-bounded : goal.returns-clause-bounded
returns-clause-bounded g c = λ top all. record {
  metric =
      subst (λ n. c.solve-solved.result.metric ≤ top * n) (sym g.met.P.Plan.same_sent)
      (c.solve-solved.ensures.metric_within top all);
  numbers = λ table is t s h k.
      let small = c.solve-solved.ensures.within top t s all (omega (arith, h, g.met.P.Plan.same_steps)) k in
      subst (λ rows. entry rows t s ≤ top * g.P.Plan.plan.sent) (same_Some c.solve-solved.result.potentials table is)
      (subst (λ n. entry c.solve-solved.result.potentials t s ≤ top * n) (sym g.met.P.Plan.same_sent) small);
}
