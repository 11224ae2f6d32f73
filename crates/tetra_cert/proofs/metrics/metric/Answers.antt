use Rattle.std.proofs.Common.{◌≡◌, ℕ, ◌≤◌, ◌*◌, length, ap, subst, arith, ◌∙◌}
use Rattle.tetra_bits.specs.Cost.{metric}
use Rattle.tetra_puncture.specs.Best.{message_metric}
use Rattle.tetra_puncture.specs.lemmas.Bounds.{message_metric_within}
use Rattle.tetra_cert.proofs.metrics.metric.Goals as goal

pub returns-clause-value : goal.returns-clause-value
unfolding message_metric
returns-clause-value g c = c.word_metric.ensures ∙ ap (metric c.args.soft.now) c.keep.ensures.word

pub returns-clause-within : goal.returns-clause-within
returns-clause-within g c = λ top all.
    let is : c.word_metric.result ≡ message_metric g.P.Plan.plan c.args.soft.now c.args.message.now = returns-clause-value g c in
    let small : message_metric g.P.Plan.plan c.args.soft.now c.args.message.now ≤ top * length c.args.soft.now =
    message_metric_within top g.P.Plan.plan c.args.soft.now c.args.message.now all in
    subst (λ (n : ℕ). c.word_metric.result ≤ top * n) c.requires.values (omega (arith, is, small))
