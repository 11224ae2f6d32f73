use Rattle.std.proofs.Common.{◌≡◌, ◌*◌, ◌+◌, ◌<◌, true, false, cond, eqb, min, get_or, arith}
use Rattle.tetra_puncture.specs.Butterflies.{wrapped_way, mark_at, IsLeastRow, AreMarks}
use Rattle.tetra_puncture.specs.lemmas.Stepping.{halves, even_way, odd_way, low_place, high_place, least_half, marks_half, even_lanes, odd_lanes}
use Rattle.tetra_puncture.proofs.stepping.marked_row.Goals as goal

pub returns-clause-row : goal.returns-clause-row
unfolding IsLeastRow
returns-clause-row g c =
    let p = g.P.Plan.plan in
    let wide = c.args.wide.now in
    let t = c.args.t in
    let after = c.args.after.now in
    let costs = c.lane_costs-costs.ensures in
    halves (λ s. get_or c.woven.result s 0 ≡ min (wrapped_way p wide t after s false) (wrapped_way p wide t after s true))
    (least_half p wide t after c.summed-even_zero.result c.summed.result c.lesser-even.result c.woven.result (λ i. 2 * i) c.lesser-even.ensures.value c.woven.ensures.even
    (even_way p wide t after c.lane_costs-costs.result.even_zero c.low.result c.summed-even_zero.result false (λ i. i) low_place c.summed-even_zero.ensures.value costs.even_zero c.low.ensures.value)
    (even_way p wide t after c.lane_costs-costs.result.even_one c.high.result c.summed.result true (λ i. 8 + i) high_place c.summed.ensures.value costs.even_one c.high.ensures.value))
    (least_half p wide t after c.summed-odd_zero.result c.summed-2.result c.lesser-odd.result c.woven.result (λ i. 2 * i + 1) c.lesser-odd.ensures.value c.woven.ensures.odd
    (odd_way p wide t after c.lane_costs-costs.result.odd_zero c.low-2.result c.summed-odd_zero.result false (λ i. i) low_place c.summed-odd_zero.ensures.value costs.odd_zero c.low-2.ensures.value)
    (odd_way p wide t after c.lane_costs-costs.result.odd_one c.high-2.result c.summed-2.result true (λ i. 8 + i) high_place c.summed-2.ensures.value costs.odd_one c.high-2.ensures.value))

pub returns-clause-marks : goal.returns-clause-marks
unfolding AreMarks
returns-clause-marks g c =
    let p = g.P.Plan.plan in
    let wide = c.args.wide.now in
    let t = c.args.t in
    let after = c.args.after.now in
    let costs = c.lane_costs-costs.ensures in
    halves (λ s. mark_at c.same.result s ≡ cond (eqb (get_or c.woven.result s 0) (wrapped_way p wide t after s false)) 1 0)
    (marks_half p wide t after c.summed-even_zero.result c.lesser-even.result c.woven.result c.joined-2.result c.joined.result c.same.result (λ i. i) (λ i. 2 * i) even_lanes
    (λ i h. let lt : i < 16 = omega arith in c.same.ensures i lt) c.joined.ensures.even c.joined-2.ensures.even c.woven.ensures.even
    (even_way p wide t after c.lane_costs-costs.result.even_zero c.low.result c.summed-even_zero.result false (λ i. i) low_place c.summed-even_zero.ensures.value costs.even_zero c.low.ensures.value))
    (marks_half p wide t after c.summed-odd_zero.result c.lesser-odd.result c.woven.result c.joined-2.result c.joined.result c.same.result (λ i. 8 + i) (λ i. 2 * i + 1) odd_lanes
    (λ i h. let lt : 8 + i < 16 = omega arith in c.same.ensures (8 + i) lt) c.joined.ensures.odd c.joined-2.ensures.odd c.woven.ensures.odd
    (odd_way p wide t after c.lane_costs-costs.result.odd_zero c.low-2.result c.summed-odd_zero.result false (λ i. i) low_place c.summed-odd_zero.ensures.value costs.odd_zero c.low-2.ensures.value))
