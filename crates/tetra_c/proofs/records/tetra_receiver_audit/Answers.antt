use Rattle.std.proofs.Common.{rules, ◌≡◌, Some, negsuc, refl, ap, ◌∙◌, to_z, of_z, w32}
use Rattle.tetra_c.specs.Faults.{number_of, answer_of}
use Rattle.tetra_session.specs.Heard.{slot_front}
use Rattle.tetra_c.specs.Receivers.{receiver_fault}
use Rattle.tetra_c.specs.Values.{soft_values}
use Rattle.tetra_c.proofs.NeverKeptWords.{claim_never_kept}
use Rattle.tetra_c.proofs.records.tetra_receiver_audit.Goals as goal

pub returns-in-Ok-clause-stands : goal.returns-in-Ok-clause-stands
returns-in-Ok-clause-stands c = λ done. c.in-Ok.ensures.stands refl

pub returns-in-Err-clause-fault : goal.returns-in-Err-clause-fault
returns-in-Err-clause-fault c = λ faulty.
    let found : Some c.in-Err.fault ≡ receiver_fault c.args.receiver.now = c.in-Err.ensures.fault faulty in
    let number : to_z w32 (of_z w32 c.number.result) ≡ number_of c.in-Err.fault = search rules in
    number ∙ ap answer_of found

pub returns-in-Err-clause-own : goal.returns-in-Err-clause-own
returns-in-Err-clause-own c = λ settings history h kept.
    let number : number_of c.in-Err.fault ≡ negsuc 6 = search (rules, kept) in
    claim_never_kept settings history c.args.receiver.now h c.in-Err.fault (slot_front settings history (soft_values c.args.slot.now)) c.args.claim.now
    c.in-Err.ensures.fault (λ ready. c.in-Err.ensures.length ready settings history h) number
