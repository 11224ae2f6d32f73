use Rattle.std.proofs.Common.{◌≡◌, ◌≤◌, length, arith, refl, ◌∙◌}
use Rattle.tetra_settings.specs.Slots.{timeslot_of}
use Rattle.tetra_session.proofs.Turning.{heard_now, heard_turned}
use Rattle.tetra_session.proofs.receiver.Receiver.slot_into.Goals as goal

pub returns-clause-reading : goal.returns-clause-reading
returns-clause-reading c = λ settings history h.
    let own = c.args.self.now in
    let here : c.from.result ≡ timeslot_of own.settings.at own.turn = c.from.ensures ∙ c.clock-timeslot.ensures.timeslot in
    let low : 1 ≤ c.from.result = rw c.from.ensures c.clock-timeslot.ensures.timeslots.0 in
    let high : c.from.result ≤ 4 = rw c.from.ensures c.clock-timeslot.ensures.timeslots.1 in
    rw (← h.same)
    (c.read_turn.ensures.reading history h.turn (heard_now settings history own c.from.result h here low high (omega arith) c.index-self-from.result))

pub returns-clause-bounded : goal.returns-clause-bounded
returns-clause-bounded c = λ settings history h.
    let own = c.args.self.now in
    let here : c.from.result ≡ timeslot_of own.settings.at own.turn = c.from.ensures ∙ c.clock-timeslot.ensures.timeslot in
    let low : 1 ≤ c.from.result = rw c.from.ensures c.clock-timeslot.ensures.timeslots.0 in
    let high : c.from.result ≤ 4 = rw c.from.ensures c.clock-timeslot.ensures.timeslots.1 in
    c.read_turn.ensures.bounded history h.turn (heard_now settings history own c.from.result h here low high (omega arith) c.index-self-from.result)

pub returns-clause-stands : goal.returns-clause-stands
returns-clause-stands c = λ settings history h.
    let own = c.args.self.now in
    let here : c.from.result ≡ timeslot_of own.settings.at own.turn = c.from.ensures ∙ c.clock-timeslot.ensures.timeslot in
    let low : 1 ≤ c.from.result = rw c.from.ensures c.clock-timeslot.ensures.timeslots.0 in
    let high : c.from.result ≤ 4 = rw c.from.ensures c.clock-timeslot.ensures.timeslots.1 in
    let four : length own.lanes ≡ 4 = omega arith in
    heard_turned settings history own c.from.result h here low high four c.args.soft.now c.read_turn.new.lane _ refl refl refl
    (c.read_turn.ensures.stands history h.turn (heard_now settings history own c.from.result h here low high four c.index-self-from.result))
