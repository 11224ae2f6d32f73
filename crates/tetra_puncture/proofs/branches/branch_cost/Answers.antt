use Rattle.std.proofs.Common.{◌≡◌, ◌<◌, ℕ, get_or, arith, sym, subst, rules}
use Rattle.tetra_puncture.specs.Labels.{IsStep, label_at}
use Rattle.tetra_puncture.specs.Trellis.{step_cost}
use Rattle.tetra_puncture.specs.lemmas.Outputs.{labels_small, cost_of_label}
use Rattle.tetra_puncture.proofs.branches.branch_cost.Goals as goal

pub bounds-costs-at : goal.bounds-costs-at
bounds-costs-at g c =
    omega (arith, c.at.ensures, labels_small _ _ _ c.requires.labels c.args.state c.args.bit c.requires.state)

pub offset_bounds-costs-at : goal.offset_bounds-costs-at
offset_bounds-costs-at g c = let small : c.at.result < 16 = bounds-costs-at g c in search rules

pub returns-clause-value : goal.returns-clause-value
returns-clause-value g c =
    let law = g.met.P.Plan in
    let p = g.P.Plan.plan in
    let step : IsStep p.outs c.args.wide.now c.args.t c.step_values.result =
    subst (λ (o : ℕ). IsStep o c.args.wide.now c.args.t c.step_values.result) (sym law.same_outs) c.step_values.ensures.step in
    let cost : get_or c.label_costs-costs.result (label_at c.args.labels.now c.args.state c.args.bit) 0
    ≡ step_cost p c.args.wide.now c.args.t c.args.state c.args.bit =
    cost_of_label p c.args.wide.now c.step_values.result c.label_costs-costs.result c.args.labels.now c.args.t c.args.state c.args.bit
    (law.sizes c.requires.sound).few_outs.1 step c.label_costs-costs.ensures.value c.requires.labels c.requires.state in
    rw c.at.ensures cost
