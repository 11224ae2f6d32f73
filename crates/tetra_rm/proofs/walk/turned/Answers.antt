use Rattle.std.proofs.Common.{◌≡◌, ◌+◌, ◌-◌, ◌≤◌, false, get_or, arith, refl, ap, sym, ◌∙◌, subst}
use Rattle.tetra_bits.specs.Cost.{cost, cost_at}
use Rattle.tetra_bits.specs.Digits.{digits}
use Rattle.tetra_bits.specs.Soft.{value_at}
use Rattle.tetra_bits.specs.Sums.{add2, sum_below}
use Rattle.tetra_bits.specs.lemmas.Digits.{length-digits}
use Rattle.tetra_rm.specs.Code.{access_word, access_metric}
use Rattle.tetra_rm.specs.Turning.{turned_message, is_changed}
use Rattle.tetra_rm.proofs.Steps.{still_there, has_room, one_more, is_metric}
use Rattle.tetra_rm.proofs.Turned.{turned_bit}
use Rattle.tetra_rm.proofs.walk.turned.Goals as goal

pub loop-k-init : goal.loop-k-init
unfolding sum_below
loop-k-init c = refl

pub recosted-sum-requires-clause-there : goal.recosted-sum-requires-clause-there
unfolding access_metric
recosted-sum-requires-clause-there c =
    subst (λ w. cost_at c.args.soft.now w c.loop-k.k ≤ c.loop-k.sum) (sym c.encode-word.ensures.word)
    (still_there c.args.soft.now c.requires.values c.len-k-end.ensures.soft (access_word c.args.rows.now.0 (digits 14 c.args.message))
    (access_word c.args.rows.now.0 (turned_message (digits 14 c.args.message) c.args.bit)) c.args.metric c.loop-k.sum c.loop-k.k c.requires.metric c.loop-k.invariant (omega arith))

pub recosted-sum-requires-clause-room : goal.recosted-sum-requires-clause-room
unfolding access_metric
recosted-sum-requires-clause-room c =
    has_room c.args.soft.now c.requires.values c.len-k-end.ensures.soft (access_word c.args.rows.now.0 (digits 14 c.args.message))
    (access_word c.args.rows.now.0 (turned_message (digits 14 c.args.message) c.args.bit)) c.args.metric c.loop-k.sum c.loop-k.k c.requires.metric c.loop-k.invariant (omega arith) _

pub loop-k-preserved : goal.loop-k-preserved
unfolding access_metric
loop-k-preserved c =
    let back : c.args.bit - 1 + 1 ≡ c.args.bit = omega (arith, c.requires.bit) in
    let turned : get_or (access_word c.args.rows.now.0 (turned_message (digits 14 c.args.message) (c.args.bit - 1 + 1))) c.loop-k.k false
    ≡ add2 (get_or (access_word c.args.rows.now.0 (digits 14 c.args.message)) c.loop-k.k false) (is_changed c.args.rows.now.0 (c.args.bit - 1 + 1) c.loop-k.k) =
    turned_bit c.args.rows.now.0 (digits 14 c.args.message) (c.args.bit - 1) (length-digits 14 c.args.message) (omega (arith, c.requires.bit)) c.loop-k.k (omega arith) in
    let bit : get_or (access_word c.args.rows.now.0 (turned_message (digits 14 c.args.message) c.args.bit)) c.loop-k.k false
    ≡ add2 (get_or (access_word c.args.rows.now.0 (digits 14 c.args.message)) c.loop-k.k false) c.is_changed.result =
    subst (λ b. get_or (access_word c.args.rows.now.0 (turned_message (digits 14 c.args.message) b)) c.loop-k.k false
    ≡ add2 (get_or (access_word c.args.rows.now.0 (digits 14 c.args.message)) c.loop-k.k false) (is_changed c.args.rows.now.0 b c.loop-k.k)) back turned
    ∙ ap (add2 (get_or (access_word c.args.rows.now.0 (digits 14 c.args.message)) c.loop-k.k false)) (sym c.is_changed.ensures) in
    let step : c.recosted-sum.result + cost_at c.args.soft.now (access_word c.args.rows.now.0 (digits 14 c.args.message)) c.loop-k.k
    ≡ c.loop-k.sum + cost (value_at c.args.soft.now c.loop-k.k) (add2 (get_or (access_word c.args.rows.now.0 (digits 14 c.args.message)) c.loop-k.k false) c.is_changed.result) =
    subst (λ w. c.recosted-sum.result + cost_at c.args.soft.now w c.loop-k.k ≡ c.loop-k.sum + cost (value_at c.args.soft.now c.loop-k.k) (add2 (get_or w c.loop-k.k false) c.is_changed.result))
    c.encode-word.ensures.word c.recosted-sum.ensures in
    one_more c.args.soft.now c.requires.values c.len-k-end.ensures.soft (access_word c.args.rows.now.0 (digits 14 c.args.message))
    (access_word c.args.rows.now.0 (turned_message (digits 14 c.args.message) c.args.bit)) c.args.metric c.loop-k.sum c.loop-k.k c.requires.metric c.loop-k.invariant c.is_changed.result c.recosted-sum.result bit step

pub returns : goal.returns
unfolding access_metric
returns c =
    is_metric c.args.soft.now c.requires.values c.len-k-end.ensures.soft (access_word c.args.rows.now.0 (digits 14 c.args.message))
    (access_word c.args.rows.now.0 (turned_message (digits 14 c.args.message) c.args.bit)) c.args.metric c.loop-k.sum c.loop-k.k c.requires.metric c.loop-k.invariant (omega arith)
