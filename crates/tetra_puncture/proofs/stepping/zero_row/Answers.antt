use Rattle.std.proofs.Common.{◌≡◌, ◌∙◌, false, get_or}
use Rattle.tetra_puncture.specs.Butterflies.{wrapped_way, IsZeroRow}
use Rattle.tetra_puncture.specs.lemmas.Stepping.{halves, even_way, odd_way, low_place}
use Rattle.tetra_puncture.proofs.stepping.zero_row.Goals as goal

pub returns : goal.returns
unfolding IsZeroRow
returns g c =
    let p = g.P.Plan.plan in
    let wide = c.args.wide.now in
    let t = c.args.t in
    let after = c.args.after.now in
    let costs = c.lane_costs-costs.ensures in
    halves (λ s. get_or c.woven.result s 0 ≡ wrapped_way p wide t after s false)
    (λ i h. c.woven.ensures.even i h
    ∙ even_way p wide t after c.lane_costs-costs.result.even_zero c.low.result c.summed.result false (λ i. i) low_place c.summed.ensures.value costs.even_zero c.low.ensures.value i h)
    (λ i h. c.woven.ensures.odd i h
    ∙ odd_way p wide t after c.lane_costs-costs.result.odd_zero c.low-2.result c.summed-2.result false (λ i. i) low_place c.summed-2.ensures.value costs.odd_zero c.low-2.ensures.value i h)
