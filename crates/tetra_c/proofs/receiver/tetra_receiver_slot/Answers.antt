use Rattle.std.proofs.Common.{rules, ◌≡◌, negsuc, refl, sym}
use Rattle.tetra_c.specs.Faults.{number_of}
use Rattle.tetra_c.proofs.NeverKeptWords.{words_never_kept}
use Rattle.tetra_c.proofs.receiver.tetra_receiver_slot.Goals as goal

pub returns-in-Ok-clause-reading : goal.returns-in-Ok-clause-reading
returns-in-Ok-clause-reading c = λ done. c.in-Ok.ensures.reading refl

pub returns-in-Ok-clause-stands : goal.returns-in-Ok-clause-stands
returns-in-Ok-clause-stands c = λ done. c.in-Ok.ensures.stands refl

pub returns-in-Err-clause-own : goal.returns-in-Err-clause-own
returns-in-Err-clause-own c = λ settings history h kept.
    let number : number_of c.in-Err.fault ≡ negsuc 6 = search (rules, kept) in
    words_never_kept settings history c.args.receiver.now h c.in-Err.fault (sym c.in-Err.ensures.fault) number
