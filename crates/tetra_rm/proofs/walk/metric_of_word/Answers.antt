use Rattle.std.proofs.Common.{FitsSigned, w16, ◌≡◌, ◌+◌, ◌*◌, ◌≤◌, arith, refl, ap, ◌∙◌, sym}
use Rattle.std.specs.Prelude.{nat_abs}
use Rattle.std.proofs.lemmas.Int.{to_z-of_z, ints}
use Rattle.tetra_bits.specs.Cost.{cost, cost_at, metric}
use Rattle.tetra_bits.specs.Order.{bit_at}
use Rattle.tetra_bits.specs.Soft.{value_at}
use Rattle.tetra_bits.specs.Sums.{sum_below}
use Rattle.tetra_bits.specs.declared.soft.TheConstants.{SOFT_MAX}
use Rattle.tetra_bits.specs.lemmas.Within.{cost_within, within_at}
use Rattle.tetra_rm.specs.Code.{access_metric}
use Rattle.tetra_rm.proofs.Steps.{soft_sum, sum_next}
use Rattle.tetra_rm.proofs.walk.metric_of_word.Goals as goal

pub loop-k-init : goal.loop-k-init
unfolding sum_below
loop-k-init c = refl

pub overflow_add-sum : goal.overflow_add-sum
unfolding cost_at
overflow_add-sum c =
    let fits : FitsSigned w16 c.get.result = omega (arith, ints, c.get.ensures.soft) in
    let value = simp to_z-of_z at c.cost-sum.ensures.value in
    let here : c.cost-sum.result ≡ cost (value_at c.args.soft.now c.loop-k.k) (bit_at c.encode-word.result c.loop-k.k) = cc in
    let so_far : sum_below c.loop-k.k (cost_at c.args.soft.now c.encode-word.result) ≤ nat_abs SOFT_MAX * c.loop-k.k = soft_sum c.args.soft.now c.encode-word.result c.loop-k.k c.len-k-end.ensures.soft in
    let most : cost (value_at c.args.soft.now c.loop-k.k) (bit_at c.encode-word.result c.loop-k.k) ≤ nat_abs SOFT_MAX =
    cost_within (nat_abs SOFT_MAX) (value_at c.args.soft.now c.loop-k.k) (bit_at c.encode-word.result c.loop-k.k) (within_at (nat_abs SOFT_MAX) c.args.soft.now c.len-k-end.ensures.soft c.loop-k.k) in
    record { fits = omega (arith, c.loop-k.invariant) }

pub loop-k-preserved : goal.loop-k-preserved
unfolding cost_at
loop-k-preserved c =
    let fits : FitsSigned w16 c.get.result = omega (arith, ints, c.get.ensures.soft) in
    let value = simp to_z-of_z at c.cost-sum.ensures.value in
    let here : c.cost-sum.result ≡ cost_at c.args.soft.now c.encode-word.result c.loop-k.k = cc in
    ap (λ n. n + c.cost-sum.result) c.loop-k.invariant ∙ ap (λ n. sum_below c.loop-k.k (cost_at c.args.soft.now c.encode-word.result) + n) here ∙ sym (sum_next c.loop-k.k (cost_at c.args.soft.now c.encode-word.result))

pub returns : goal.returns
unfolding access_metric metric
returns c =
    let end : c.loop-k.k ≡ c.len-k-end.result = omega arith in
    c.loop-k.invariant ∙ ap (λ n. sum_below n (cost_at c.args.soft.now c.encode-word.result)) (end ∙ c.len-k-end.ensures.value) ∙ ap (metric c.args.soft.now) c.encode-word.ensures.word
