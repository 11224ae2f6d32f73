use Rattle.std.proofs.Common.{◌≡◌, ℕ, ◌+◌, ◌-◌, ◌*◌, ◌/◌, ◌%◌, ◌^◌, ◌<◌, ◌≤◌, length, arith, ap, subst, sym, ◌∙◌}
use Rattle.std.specs.Int.Bits.{bit_xor}
use Rattle.tetra_bits.specs.Cost.{metric}
use Rattle.tetra_bits.specs.Digits.{digits}
use Rattle.tetra_bits.specs.Least.{FirstLeast}
use Rattle.tetra_bits.specs.lemmas.Best.{only_best}
use Rattle.tetra_bits.specs.lemmas.Within.{metric_within}
use Rattle.tetra_rm.specs.Code.{access_word, access_metric, best_access}
use Rattle.tetra_rm.specs.Search.{IsLeastBelow, key_of_number}
use Rattle.tetra_rm.specs.Turning.{walk_message}
use Rattle.tetra_rm.proofs.Least.{least_of_one, least_more}
use Rattle.tetra_rm.proofs.WholeKeys.{key_is, least_metric, least_is_first}
use Rattle.tetra_rm.proofs.WholeWalk.{walk_begins, walk_step, walk_below, least_of_walk}
use Rattle.tetra_rm.proofs.walk.decode_by_walk.Goals as goal

pub loop-step-init : goal.loop-step-init
loop-step-init c = record {
  here = sym walk_begins;
  rated = c.metric_of_word-metric.ensures;
  small = omega arith;
  least = least_of_one (λ s. key_of_number c.args.rows.now.0 c.args.soft.now (walk_message s)) (c.metric_of_word-metric.result * 16384 + 0)
      (ap (λ n. n * 16384 + 0) c.metric_of_word-metric.ensures ∙ key_is c.args.rows.now.0 c.args.soft.now 0 ∙ ap (key_of_number c.args.rows.now.0 c.args.soft.now) (sym walk_begins));
}

pub loop-step-preserved : goal.loop-step-preserved
loop-step-preserved c =
    let step : walk_message (c.loop-step.step + 1) ≡ bit_xor (walk_message c.loop-step.step) (2 ^ (14 - c.bit_of_step-bit.result)) =
    walk_step (14 - c.bit_of_step-bit.result) c.loop-step.step c.bit_of_step-bit.ensures.place c.bit_of_step-bit.ensures.behind in
    let here : c.with_turned-message.result ≡ walk_message (c.loop-step.step + 1) =
    c.with_turned-message.ensures.number ∙ ap (λ m. bit_xor m (2 ^ (14 - c.bit_of_step-bit.result))) c.loop-step.invariant.here ∙ sym step in
    let rated : c.turned-metric.result ≡ access_metric c.args.rows.now.0 c.args.soft.now (digits 14 c.with_turned-message.result) =
    c.turned-metric.ensures ∙ ap (access_metric c.args.rows.now.0 c.args.soft.now) (sym c.with_turned-message.ensures.bits) in
    record {
      here = here;
      rated = rated;
      small = c.better-best.ensures.message;
      least = least_more (λ s. key_of_number c.args.rows.now.0 c.args.soft.now (walk_message s)) (c.loop-step.step + 1)
          (c.loop-step.best.metric * 16384 + c.loop-step.best.message) (c.turned-metric.result * 16384 + c.with_turned-message.result) (c.better-best.result.metric * 16384 + c.better-best.result.message)
          (ap (λ n. n * 16384 + c.with_turned-message.result) rated ∙ key_is c.args.rows.now.0 c.args.soft.now c.with_turned-message.result ∙ ap (key_of_number c.args.rows.now.0 c.args.soft.now) here)
          c.better-best.ensures.key c.loop-step.invariant.least;
    }

pub turned-metric-requires-clause-message : goal.turned-metric-requires-clause-message
turned-metric-requires-clause-message c = let small : walk_message c.loop-step.step < 16384 = walk_below c.loop-step.step (omega arith) in omega (arith, c.loop-step.invariant.here)

pub with_turned-message-requires-clause-message : goal.with_turned-message-requires-clause-message
with_turned-message-requires-clause-message c = let small : walk_message c.loop-step.step < 16384 = walk_below c.loop-step.step (omega arith) in omega (arith, c.loop-step.invariant.here)

pub better-best-requires : goal.better-best-requires
better-best-requires c =
    let step : walk_message (c.loop-step.step + 1) ≡ bit_xor (walk_message c.loop-step.step) (2 ^ (14 - c.bit_of_step-bit.result)) =
    walk_step (14 - c.bit_of_step-bit.result) c.loop-step.step c.bit_of_step-bit.ensures.place c.bit_of_step-bit.ensures.behind in
    let here : c.with_turned-message.result ≡ walk_message (c.loop-step.step + 1) =
    c.with_turned-message.ensures.number ∙ ap (λ m. bit_xor m (2 ^ (14 - c.bit_of_step-bit.result))) c.loop-step.invariant.here ∙ sym step in
    let small : walk_message (c.loop-step.step + 1) < 16384 = walk_below (c.loop-step.step + 1) (omega arith) in
    (c.loop-step.invariant.small, omega arith)

key_left : (metric message : ℕ) → message < 16384 → ((metric * 16384 + message) % 16384 ≡ message) × ((metric * 16384 + message) / 16384 ≡ metric)
key_left metric message h = (omega arith, omega arith)

pub returns-clause-first : goal.returns-clause-first
returns-clause-first c =
    let end : c.loop-step.step + 1 ≡ 16384 = omega arith in
    let parts = key_left c.loop-step.best.metric c.loop-step.best.message c.loop-step.invariant.small in
    subst (λ m. FirstLeast 14 (access_metric c.args.rows.now.0 c.args.soft.now) (digits 14 m)) parts.0
    (least_is_first c.args.rows.now.0 c.args.soft.now (c.loop-step.best.metric * 16384 + c.loop-step.best.message)
    (least_of_walk (key_of_number c.args.rows.now.0 c.args.soft.now) (c.loop-step.best.metric * 16384 + c.loop-step.best.message)
    (subst (λ n. IsLeastBelow (λ s. key_of_number c.args.rows.now.0 c.args.soft.now (walk_message s)) n (c.loop-step.best.metric * 16384 + c.loop-step.best.message)) end c.loop-step.invariant.least)))

pub returns-clause-best : goal.returns-clause-best
unfolding best_access
returns-clause-best c = only_best 14 (access_metric c.args.rows.now.0 c.args.soft.now) (digits 14 c.loop-step.best.message) (returns-clause-first c)

pub returns-clause-metric : goal.returns-clause-metric
returns-clause-metric c =
    let end : c.loop-step.step + 1 ≡ 16384 = omega arith in
    let parts = key_left c.loop-step.best.metric c.loop-step.best.message c.loop-step.invariant.small in
    sym parts.1
    ∙ least_metric c.args.rows.now.0 c.args.soft.now (c.loop-step.best.metric * 16384 + c.loop-step.best.message)
    (least_of_walk (key_of_number c.args.rows.now.0 c.args.soft.now) (c.loop-step.best.metric * 16384 + c.loop-step.best.message)
    (subst (λ n. IsLeastBelow (λ s. key_of_number c.args.rows.now.0 c.args.soft.now (walk_message s)) n (c.loop-step.best.metric * 16384 + c.loop-step.best.message)) end c.loop-step.invariant.least))
    ∙ ap (λ m. access_metric c.args.rows.now.0 c.args.soft.now (digits 14 m)) parts.0

pub returns-clause-within : goal.returns-clause-within
unfolding access_metric
returns-clause-within c = λ top within.
    let most : metric c.args.soft.now (access_word c.args.rows.now.0 (digits 14 c.loop-step.best.message)) ≤ top * length c.args.soft.now =
    metric_within top c.args.soft.now (access_word c.args.rows.now.0 (digits 14 c.loop-step.best.message)) within in
    let rated : c.loop-step.best.metric ≡ metric c.args.soft.now (access_word c.args.rows.now.0 (digits 14 c.loop-step.best.message)) = returns-clause-metric c in
    rw (rated, ← c.requires) most
