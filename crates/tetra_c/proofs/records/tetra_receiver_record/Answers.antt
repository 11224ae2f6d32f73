use Rattle.std.proofs.Common.{rules, ◌≡◌, negsuc, refl, sym, ap, ◌∙◌}
use Rattle.tetra_records.specs.Readings.{reading_spelling}
use Rattle.tetra_session.specs.Heard.{slot_reading}
use Rattle.tetra_c.specs.Faults.{number_of}
use Rattle.tetra_c.specs.Values.{soft_values}
use Rattle.tetra_c.proofs.NeverKeptWords.{words_never_kept}
use Rattle.tetra_c.proofs.records.tetra_receiver_record.Goals as goal

pub returns-in-Ok-clause-bytes : goal.returns-in-Ok-clause-bytes
returns-in-Ok-clause-bytes c = λ done settings history h.
    c.in-Ok.ensures.bytes settings history h
    ∙ ap (λ form. reading_spelling form (slot_reading settings history (soft_values c.args.slot.now))) c.form_of.ensures

pub returns-in-Ok-clause-stands : goal.returns-in-Ok-clause-stands
returns-in-Ok-clause-stands c = λ done. c.in-Ok.ensures.stands refl

pub returns-in-Err-clause-own : goal.returns-in-Err-clause-own
returns-in-Err-clause-own c = λ settings history h kept.
    let number : number_of c.in-Err.fault ≡ negsuc 6 = search (rules, kept) in
    words_never_kept settings history c.args.receiver.now h c.in-Err.fault (sym c.in-Err.ensures.fault) number
