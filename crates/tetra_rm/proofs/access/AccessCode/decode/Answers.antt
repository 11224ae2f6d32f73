use Rattle.std.proofs.Common.{◌≡◌, ◌≤◌, ◌*◌, length, ap, ◌∙◌, subst, sym}
use Rattle.tetra_bits.specs.Digits.{digits}
use Rattle.tetra_bits.specs.Cost.{metric}
use Rattle.tetra_bits.specs.Least.{FirstLeast}
use Rattle.tetra_bits.specs.lemmas.Within.{metric_within}
use Rattle.tetra_bits.specs.lemmas.Best.{only_best}
use Rattle.tetra_rm.specs.Code.{access_word, access_metric, best_access}
use Rattle.tetra_rm.proofs.WholeKeys.{least_metric, least_is_first, soft_fit}
use Rattle.tetra_rm.proofs.access.AccessCode.decode.Goals as goal

pub least_key-key-requires-clause-within : goal.least_key-key-requires-clause-within
least_key-key-requires-clause-within c = soft_fit c.args.soft.now c.len-len.ensures.soft

pub returns-clause-first : goal.returns-clause-first
returns-clause-first c =
    subst (λ rows. FirstLeast 14 (access_metric rows.0 c.args.soft.now) (digits 14 c.message_of.result)) c.self.view_is
    (subst (λ m. FirstLeast 14 (access_metric c.self.inside.rows.0 c.args.soft.now) (digits 14 m)) (sym c.message_of.ensures)
    (least_is_first c.self.inside.rows.0 c.args.soft.now c.least_key-key.result (c.least_key-key.ensures c.self.inside.rows.0 c.self.invariant)))

pub returns-clause-best : goal.returns-clause-best
unfolding best_access
returns-clause-best c = only_best 14 (access_metric c.args.self.now.0 c.args.soft.now) (digits 14 c.message_of.result) (returns-clause-first c)

pub returns-clause-metric : goal.returns-clause-metric
returns-clause-metric c =
    c.metric_of.ensures ∙ least_metric c.self.inside.rows.0 c.args.soft.now c.least_key-key.result (c.least_key-key.ensures c.self.inside.rows.0 c.self.invariant)
    ∙ ap (λ m. access_metric c.self.inside.rows.0 c.args.soft.now (digits 14 m)) (sym c.message_of.ensures)
    ∙ ap (λ rows. access_metric rows.0 c.args.soft.now (digits 14 c.message_of.result)) c.self.view_is

pub returns-clause-within : goal.returns-clause-within
unfolding access_metric
returns-clause-within c = λ top within.
    let most : metric c.args.soft.now (access_word c.args.self.now.0 (digits 14 c.message_of.result)) ≤ top * length c.args.soft.now =
    metric_within top c.args.soft.now (access_word c.args.self.now.0 (digits 14 c.message_of.result)) within in
    let rated : c.metric_of.result ≡ metric c.args.soft.now (access_word c.args.self.now.0 (digits 14 c.message_of.result)) = returns-clause-metric c in
    rw (rated, ← c.requires) most
