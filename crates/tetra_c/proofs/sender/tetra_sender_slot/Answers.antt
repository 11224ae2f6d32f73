use Rattle.std.proofs.Common.{rules, ◌≡◌, ◌≤◌, length, arith, refl, sym, ◌∙◌, subst}
use Rattle.std.specs.Prelude.{negsuc}
use Rattle.tetra_settings.specs.Slots.{timeslot_of}
use Rattle.tetra_c.specs.Faults.{number_of}
use Rattle.tetra_c.specs.Senders.{SenderIs}
use Rattle.tetra_c.proofs.NeverKept.{never_kept}
use Rattle.tetra_c.proofs.SenderTurns.{sent_now, sent_turned}
use Rattle.tetra_c.proofs.sender.tetra_sender_slot.Goals as goal

pub returns-in-Ok-clause-slot : goal.returns-in-Ok-clause-slot
returns-in-Ok-clause-slot c = λ done settings history h.
    let sender = c.args.sender.now in
    let found = c.in-Ok.settings in
    let same : found ≡ settings = c.in-Ok.ensures.settings ∙ h.same in
    let is : SenderIs found history sender = subst (λ s. SenderIs s history sender) (sym same) h in
    let here : c.from.result ≡ timeslot_of found.at sender.turn = c.from.ensures ∙ c.clock-timeslot.ensures.timeslot in
    let low : 1 ≤ c.from.result = rw c.from.ensures c.clock-timeslot.ensures.timeslots.0 in
    let high : c.from.result ≤ 4 = rw c.from.ensures c.clock-timeslot.ensures.timeslots.1 in
    let four : length sender.lanes ≡ 4 = omega arith in
    rw (← same, ← c.in-Ok.ensures.given)
    (c.send_turn.ensures.slot history is.turn (sent_now found history sender c.from.result is here low high four _))

pub returns-in-Ok-clause-stands : goal.returns-in-Ok-clause-stands
returns-in-Ok-clause-stands c = λ done settings history h.
    let sender = c.args.sender.now in
    let found = c.in-Ok.settings in
    let same : found ≡ settings = c.in-Ok.ensures.settings ∙ h.same in
    let is : SenderIs found history sender = subst (λ s. SenderIs s history sender) (sym same) h in
    let here : c.from.result ≡ timeslot_of found.at sender.turn = c.from.ensures ∙ c.clock-timeslot.ensures.timeslot in
    let low : 1 ≤ c.from.result = rw c.from.ensures c.clock-timeslot.ensures.timeslots.0 in
    let high : c.from.result ≤ 4 = rw c.from.ensures c.clock-timeslot.ensures.timeslots.1 in
    let four : length sender.lanes ≡ 4 = omega arith in
    rw (← same, ← c.in-Ok.ensures.given)
    (sent_turned found history sender c.from.result is here low high four _ c.send_turn.new.lane _ refl refl refl
    (c.send_turn.ensures.stands history is.turn (sent_now found history sender c.from.result is here low high four _)))

pub returns-in-Err-clause-own : goal.returns-in-Err-clause-own
returns-in-Err-clause-own c = λ settings history h kept.
    let number : number_of c.in-Err.fault ≡ negsuc 6 = search (rules, kept) in
    never_kept settings history c.args.sender.now h c.args.blocks.now c.in-Err.fault (sym c.in-Err.ensures.fault) number
