use Rattle.std.proofs.Common.{FitsSigned, w16, arith, rules, ◌∙◌}
use Rattle.std.proofs.lemmas.Int.{to_z-of_z}
use Rattle.tetra_puncture.specs.lemmas.Bounds.{cost_fits}
use Rattle.tetra_cert.proofs.Sums.{none_yet, one_place, all_places}
use Rattle.tetra_cert.proofs.metrics.word_metric.Goals as goal

pub loop-k-init : goal.loop-k-init
loop-k-init c = record { sum_is = none_yet c.args.soft.now c.args.word.now; small = omega arith }

pub loop-k-preserved : goal.loop-k-preserved
loop-k-preserved c =
    let fits : FitsSigned w16 c.get.result = search rules in
    let paid = simp to_z-of_z at c.cost-sum.ensures.value in
    record {
      sum_is = one_place c.args.soft.now c.args.word.now c.loop-k.k c.loop-k.sum c.cost-sum.result c.get.result c.get-in-loop-k.result c.loop-k.invariant.sum_is c.get.ensures.value c.get-in-loop-k.ensures paid;
      small = omega (arith, paid, cost_fits c.get.result c.get-in-loop-k.result c.get.ensures.soft);
    }

pub returns : goal.returns
returns c = c.loop-k.invariant.sum_is ∙ all_places c.args.soft.now c.args.word.now c.loop-k.k (omega arith)
