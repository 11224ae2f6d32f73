use Rattle.tetra_speech.proofs.Undamaged.{undamaged_speech_is_read}
use Rattle.tetra_speech.proofs.laws.undamaged_speech_is_read.Goals as goal

pub returns : goal.returns
returns c = undamaged_speech_is_read c.parts_are_undone.ensures c.blocks_are_good.ensures
