use Rattle.tetra_session.proofs.SlotsArriving.{slots_arrive}
use Rattle.tetra_session.proofs.laws.slots_arrive.Goals as goal

pub returns : goal.returns
returns c =
    slots_arrive c.undamaged_is_read-3.ensures c.undamaged_is_read-4.ensures c.undamaged_is_read-2.ensures c.undamaged_is_read.ensures
    c.undamaged_is_read-5.ensures c.none_wrong_is_read.ensures c.undamaged_is_read-6.ensures c.fields_arrive.ensures c.kind_arrives.ensures
    c.flipped_back.ensures c.stays_undamaged.ensures c.undamaged_speech_arrives.ensures c.undamaged_speech_is_read.ensures
