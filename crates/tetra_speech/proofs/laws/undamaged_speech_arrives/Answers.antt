use Rattle.tetra_speech.proofs.Undamaged.{undamaged_speech_arrives}
use Rattle.tetra_speech.proofs.laws.undamaged_speech_arrives.Goals as goal

pub returns : goal.returns
returns c = undamaged_speech_arrives c.matrices_are_one_to_one.ensures c.stay_undamaged.ensures
