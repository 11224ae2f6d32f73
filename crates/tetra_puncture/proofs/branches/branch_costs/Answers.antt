use Rattle.std.proofs.Common.{ℕ, true, false, sym, subst, ◌∙◌}
use Rattle.tetra_puncture.specs.Labels.{IsStep}
use Rattle.tetra_puncture.specs.lemmas.Outputs.{labels_small, cost_of_label}
use Rattle.tetra_puncture.proofs.branches.branch_costs.Goals as goal

pub costs_with-requires : goal.costs_with-requires
costs_with-requires g c = labels_small _ _ _ c.requires.labels

pub costs_with-requires-2 : goal.costs_with-requires-2
costs_with-requires-2 g c = labels_small _ _ _ c.requires.labels

pub returns-clause-zero : goal.returns-clause-zero
returns-clause-zero g c = λ s h.
    let law = g.met.P.Plan in
    let p = g.P.Plan.plan in
    let step : IsStep p.outs c.args.wide.now c.args.t c.step_values.result =
    subst (λ (o : ℕ). IsStep o c.args.wide.now c.args.t c.step_values.result) (sym law.same_outs) c.step_values.ensures.step in
    c.costs_with.ensures s h
    ∙ cost_of_label p c.args.wide.now c.step_values.result c.label_costs-costs.result c.args.labels.now c.args.t s false
    (law.sizes c.requires.sound).few_outs.1 step c.label_costs-costs.ensures.value c.requires.labels h

pub returns-clause-one : goal.returns-clause-one
returns-clause-one g c = λ s h.
    let law = g.met.P.Plan in
    let p = g.P.Plan.plan in
    let step : IsStep p.outs c.args.wide.now c.args.t c.step_values.result =
    subst (λ (o : ℕ). IsStep o c.args.wide.now c.args.t c.step_values.result) (sym law.same_outs) c.step_values.ensures.step in
    c.costs_with-2.ensures s h
    ∙ cost_of_label p c.args.wide.now c.step_values.result c.label_costs-costs.result c.args.labels.now c.args.t s true
    (law.sizes c.requires.sound).few_outs.1 step c.label_costs-costs.ensures.value c.requires.labels h
