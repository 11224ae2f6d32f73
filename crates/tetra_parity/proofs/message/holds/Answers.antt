use Rattle.std.proofs.Common.{◌≡◌, ◌≤◌, ◌+◌, ◌-◌, length, arith, refl}
use Rattle.tetra_parity.specs.Parity.{Holds}
use Rattle.tetra_parity.proofs.Messages.{all_agree, one_differs, says_true, says_false}
use Rattle.tetra_parity.proofs.message.holds.Goals as goal

fails : (c : goal.Then-get-digit) → Holds c.args.parity c.args.message.now → ⊥
fails c =
    let whole : c.len.result - c.width-width.result + c.width-width.result ≡ length c.args.message.now = omega arith in
    one_differs c.args.parity c.args.message.now (c.len.result - c.width-width.result) c.parity_of-number.result c.width-width.result c.width-width.ensures whole c.parity_of-number.ensures c.loop-i.i c.get.result c.digit.result c.loop-i-test.true c.get.ensures c.digit.ensures c.if-get-digit.true

passes : (c : goal.After-loop-i) → Holds c.args.parity c.args.message.now
passes c =
    let whole : c.len.result - c.width-width.result + c.width-width.result ≡ length c.args.message.now = omega arith in
    let ended : c.width-width.result ≤ c.loop-i.i = c.loop-i-test.false in
    all_agree c.args.parity c.args.message.now (c.len.result - c.width-width.result) c.parity_of-number.result c.width-width.result c.width-width.ensures whole c.parity_of-number.ensures (λ k h. c.loop-i.invariant k (omega arith))

pub returns-then-get-digit-clause-holds : goal.returns-then-get-digit-clause-holds
returns-then-get-digit-clause-holds c = (λ h. cc, λ h. absurd (fails c h))

pub returns-then-get-digit-clause-value : goal.returns-then-get-digit-clause-value
returns-then-get-digit-clause-value c = says_false c.args.parity c.args.message.now (fails c)

pub returns-clause-holds : goal.returns-clause-holds
returns-clause-holds c = (λ h. passes c, λ h. refl)

pub returns-clause-value : goal.returns-clause-value
returns-clause-value c = says_true c.args.parity c.args.message.now (passes c)
