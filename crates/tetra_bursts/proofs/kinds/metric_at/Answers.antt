use Rattle.std.proofs.Common.{◌≡◌, ◌+◌, ◌-◌, ◌<◌, pos, get_or, length, take, drop, refl, arith, sym, ◌∙◌, FitsSigned, w16, rules}
use Rattle.std.specs.Prelude.{nat_abs}
use Rattle.std.proofs.lemmas.Int.{to_z-of_z}
use Rattle.std.proofs.lemmas.List.{get_or-take, get_or-drop, length-take-le, length-drop}
use Rattle.tetra_bits.specs.declared.soft.TheConstants.{SOFT_MAX}
use Rattle.tetra_bits.specs.Sums.{sum_below}
use Rattle.tetra_bits.specs.Soft.{IsSoft, value_at}
use Rattle.tetra_bits.specs.Cost.{metric}
use Rattle.tetra_bursts.proofs.Metrics.{metric_next}
use Rattle.tetra_bursts.proofs.kinds.metric_at.Goals as goal

pub loop-i-init : goal.loop-i-init
unfolding sum_below
loop-i-init c = record { so_far = refl; small = omega arith }

pub loop-i-preserved : goal.loop-i-preserved
loop-i-preserved c =
    let n = length c.args.text.now in
    let v = get_or c.args.soft.now (c.args.at + c.loop-i.i) (pos 0) in
    let there : c.args.at + c.loop-i.i < length c.args.soft.now = omega arith in
    let soft : IsSoft v = c.requires.soft (c.args.at + c.loop-i.i) (pos 0) there in
    let fits : FitsSigned w16 v = search (rules, soft) in
    let within = c.cost-total.ensures.within (nat_abs SOFT_MAX) (rw (to_z-of_z) soft) in
    let paid = simp to_z-of_z at c.cost-total.ensures.value in
    let value : value_at (take n (drop c.args.at c.args.soft.now)) c.loop-i.i ≡ v =
    get_or-take n (drop c.args.at c.args.soft.now) c.loop-i.i (pos 0) c.loop-i-test.true ∙ get_or-drop c.args.at c.args.soft.now c.loop-i.i (pos 0) in
    record {
      so_far = metric_next (take n (drop c.args.at c.args.soft.now)) c.args.text.now c.loop-i.i c.loop-i.total _ v c.loop-i-test.true c.loop-i.invariant.so_far (sym value) paid;
      small = omega arith;
    }

pub returns-clause-value : goal.returns-clause-value
unfolding metric
returns-clause-value c =
    let n = length c.args.text.now in
    let rest : length (drop c.args.at c.args.soft.now) ≡ length c.args.soft.now - c.args.at = length-drop c.args.at c.args.soft.now in
    let size : length (take n (drop c.args.at c.args.soft.now)) ≡ n = length-take-le n (drop c.args.at c.args.soft.now) (omega arith) in
    let end : c.loop-i.i ≡ n = omega arith in
    rw size (rw end at c.loop-i.invariant.so_far)
