use Rattle.std.proofs.Common.{◌≡◌, ◌<◌, ◌+◌, length, arith, refl, sym, ◌∙◌, subst}
use Rattle.tetra_settings.specs.Slots.{timeslot_of}
use Rattle.tetra_c.specs.Receivers.{ReceiverIs}
use Rattle.tetra_c.specs.Values.{soft_values}
use Rattle.tetra_c.proofs.Turns.{lane_now, receiver_turned}
use Rattle.tetra_c.proofs.records.record_next.Goals as goal

pub returns-clause-bytes : goal.returns-clause-bytes
returns-clause-bytes c = λ settings history h.
    let receiver = c.args.receiver.now in
    let found = c.in_ok-settings.settings in
    let at = c.lane_at-at.result in
    let same : found ≡ settings = c.in_ok-settings.ensures.value ∙ h.same in
    let is : ReceiverIs found history receiver = subst (λ s. ReceiverIs s history receiver) (sym same) h in
    let here : at + 1 ≡ timeslot_of found.at receiver.turn = c.lane_at-at.ensures.value in
    let within : at < 4 = c.lane_at-at.ensures.within in
    let four : length receiver.lanes ≡ 4 = omega arith in
    rw (← same) (c.record_slot-written.ensures.bytes history is.turn (lane_now found history receiver at is here within four _))

pub returns-clause-stands : goal.returns-clause-stands
returns-clause-stands c = λ done settings history h.
    let receiver = c.args.receiver.now in
    let found = c.in_ok-settings.settings in
    let at = c.lane_at-at.result in
    let same : found ≡ settings = c.in_ok-settings.ensures.value ∙ h.same in
    let is : ReceiverIs found history receiver = subst (λ s. ReceiverIs s history receiver) (sym same) h in
    let here : at + 1 ≡ timeslot_of found.at receiver.turn = c.lane_at-at.ensures.value in
    let within : at < 4 = c.lane_at-at.ensures.within in
    let four : length receiver.lanes ≡ 4 = omega arith in
    rw (← same)
    (receiver_turned found history receiver at is here within four (soft_values c.args.slot.now) c.record_slot-written.new.lane _ refl refl refl
    (c.record_slot-written.ensures.stands history is.turn (lane_now found history receiver at is here within four _)))
