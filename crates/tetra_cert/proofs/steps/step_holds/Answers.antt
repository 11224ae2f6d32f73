use Rattle.std.proofs.Common.{◌≡◌, ◌+◌, ◌<◌, ltb, true, arith, refl, ◌∙◌}
use Rattle.std.proofs.lemmas.Bool.{lt-ltb}
use Rattle.tetra_cert.proofs.StepRules.{step_rules}
use Rattle.tetra_cert.proofs.steps.step_holds.Goals as goal

pub returns-then-all_edges_hold : goal.returns-then-all_edges_hold
returns-then-all_edges_hold g c = λ found.
    let both : c.args.t + 4 < g.P.Plan.plan.steps → ltb (c.args.t + 4) c.STEPS.result ≡ true =
    λ h. lt-ltb (c.args.t + 4) c.STEPS.result (omega (arith, g.met.P.Plan.same_steps, c.STEPS.ensures)) in
    step_rules g.P.Plan.plan c.args.wide.now c.args.message.now c.args.table.now c.args.t c.args.path c.row-row.result.now
    c.row-after.result.now c.branch_costs-costs.result.zero c.branch_costs-costs.result.one
    c.requires.step c.requires.small c.requires.path c.row-row.ensures.row c.row-after.ensures.row
    c.branch_costs-costs.ensures.zero c.branch_costs-costs.ensures.one
    (record {
      edge_zero = c.if-all_edges_hold.ensures.zero refl;
      edge_one = λ h. c.if-all_edges_hold.ensures.one refl (both h);
      path_zero = λ e. c.path_holds.ensures.zero found (c.taken.ensures ∙ e);
      path_one = λ e. c.path_holds.ensures.one found (c.taken.ensures ∙ e);
      tie = λ e. c.path_holds.ensures.tie found (c.taken.ensures ∙ e);
    })
