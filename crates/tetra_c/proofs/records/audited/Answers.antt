use Rattle.std.proofs.Common.{◌≡◌, ◌≢◌, ◌<◌, ◌+◌, length, arith, refl, sym, ◌∙◌, subst}
use Rattle.tetra_audit.specs.Fields.{claim_length}
use Rattle.tetra_session.specs.Heard.{slot_front}
use Rattle.tetra_settings.specs.Slots.{timeslot_of}
use Rattle.tetra_c.specs.Receivers.{ReceiverIs}
use Rattle.tetra_c.specs.Values.{soft_values}
use Rattle.tetra_c.proofs.Turns.{lane_now, receiver_turned, other_length, same_length}
use Rattle.tetra_c.proofs.records.audited.Goals as goal

pub returns-then-claim-claim_len-clause-length : goal.returns-then-claim-claim_len-clause-length
returns-then-claim-claim_len-clause-length c = λ ready settings history h.
    let receiver = c.args.receiver.now in
    let found = c.in_ok-settings.settings in
    let at = c.lane_at-at.result in
    let same : found ≡ settings = c.in_ok-settings.ensures.value ∙ h.same in
    let is : ReceiverIs found history receiver = subst (λ s. ReceiverIs s history receiver) (sym same) h in
    let here : at + 1 ≡ timeslot_of found.at receiver.turn = c.lane_at-at.ensures.value in
    let within : at < 4 = c.lane_at-at.ensures.within in
    let four : length receiver.lanes ≡ 4 = omega arith in
    let front : c.hear.new.front ≡ slot_front found history (soft_values c.args.slot.now) = c.hear.ensures.front history is.turn (lane_now found history receiver at is here within four _) in
    let differs : length c.args.claim.now ≢ claim_length c.hear.new.front = λ e. c.if-claim-claim_len.true (e ∙ sym c.claim_len.ensures.length) in
    rw (← same, ← front) (other_length c.hear.new.front c.args.claim.now differs)

pub returns-clause-length : goal.returns-clause-length
returns-clause-length c = λ ready settings history h.
    let receiver = c.args.receiver.now in
    let found = c.in_ok-settings.settings in
    let at = c.lane_at-at.result in
    let same : found ≡ settings = c.in_ok-settings.ensures.value ∙ h.same in
    let is : ReceiverIs found history receiver = subst (λ s. ReceiverIs s history receiver) (sym same) h in
    let here : at + 1 ≡ timeslot_of found.at receiver.turn = c.lane_at-at.ensures.value in
    let within : at < 4 = c.lane_at-at.ensures.within in
    let four : length receiver.lanes ≡ 4 = omega arith in
    let front : c.hear.new.front ≡ slot_front found history (soft_values c.args.slot.now) = c.hear.ensures.front history is.turn (lane_now found history receiver at is here within four _) in
    rw (← same, ← front) (same_length c.hear.new.front c.args.claim.now (c.if-claim-claim_len.false ∙ c.claim_len.ensures.length))

pub returns-clause-verdict : goal.returns-clause-verdict
returns-clause-verdict c = λ settings history h.
    let receiver = c.args.receiver.now in
    let found = c.in_ok-settings.settings in
    let at = c.lane_at-at.result in
    let same : found ≡ settings = c.in_ok-settings.ensures.value ∙ h.same in
    let is : ReceiverIs found history receiver = subst (λ s. ReceiverIs s history receiver) (sym same) h in
    let here : at + 1 ≡ timeslot_of found.at receiver.turn = c.lane_at-at.ensures.value in
    let within : at < 4 = c.lane_at-at.ensures.within in
    let four : length receiver.lanes ≡ 4 = omega arith in
    let front : c.hear.new.front ≡ slot_front found history (soft_values c.args.slot.now) = c.hear.ensures.front history is.turn (lane_now found history receiver at is here within four _) in
    rw (← same, ← front, ← c.of.ensures) c.audit.ensures

pub returns-clause-stands : goal.returns-clause-stands
returns-clause-stands c = λ done settings history h.
    let receiver = c.args.receiver.now in
    let found = c.in_ok-settings.settings in
    let at = c.lane_at-at.result in
    let same : found ≡ settings = c.in_ok-settings.ensures.value ∙ h.same in
    let is : ReceiverIs found history receiver = subst (λ s. ReceiverIs s history receiver) (sym same) h in
    let here : at + 1 ≡ timeslot_of found.at receiver.turn = c.lane_at-at.ensures.value in
    let within : at < 4 = c.lane_at-at.ensures.within in
    let four : length receiver.lanes ≡ 4 = omega arith in
    rw (← same)
    (receiver_turned found history receiver at is here within four (soft_values c.args.slot.now) c.hear.new.lane _ refl refl refl
    (c.hear.ensures.stands history is.turn (lane_now found history receiver at is here within four _)))
