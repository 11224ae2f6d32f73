use Rattle.std.proofs.Common.{◌≡◌, ◌<◌, ◌+◌, length, arith, refl, sym, ◌∙◌, subst}
use Rattle.tetra_settings.specs.Slots.{timeslot_of}
use Rattle.tetra_c.specs.Receivers.{ReceiverIs}
use Rattle.tetra_c.specs.Values.{soft_values}
use Rattle.tetra_c.proofs.Turns.{lane_now, receiver_turned}
use Rattle.tetra_c.proofs.receiver.read_next.Goals as goal

pub returns-clause-reading : goal.returns-clause-reading
returns-clause-reading c = λ done settings history h.
    let receiver = c.args.receiver.now in
    let found = c.in_ok-settings.settings in
    let at = c.lane_at-at.result in
    let same : found ≡ settings = c.in_ok-settings.ensures.value ∙ h.same in
    let is : ReceiverIs found history receiver = subst (λ s. ReceiverIs s history receiver) (sym same) h in
    let here : at + 1 ≡ timeslot_of found.at receiver.turn = c.lane_at-at.ensures.value in
    let within : at < 4 = c.lane_at-at.ensures.within in
    let four : length receiver.lanes ≡ 4 = omega arith in
    rw (← same) (c.read_slot.ensures.reading history is.turn (lane_now found history receiver at is here within four _))

pub returns-clause-stands : goal.returns-clause-stands
returns-clause-stands c = λ done settings history h.
    let receiver = c.args.receiver.now in
    let found = c.in_ok-settings.settings in
    let at = c.lane_at-at.result in
    let same : found ≡ settings = c.in_ok-settings.ensures.value ∙ h.same in
    let is : ReceiverIs found history receiver = subst (λ s. ReceiverIs s history receiver) (sym same) h in
    let here : at + 1 ≡ timeslot_of found.at receiver.turn = c.lane_at-at.ensures.value in
    let within : at < 4 = c.lane_at-at.ensures.within in
    let four : length receiver.lanes ≡ 4 = omega arith in
    rw (← same)
    (receiver_turned found history receiver at is here within four (soft_values c.args.slot.now) c.read_slot.new.lane _ refl refl refl
    (c.read_slot.ensures.stands history is.turn (lane_now found history receiver at is here within four _)))
