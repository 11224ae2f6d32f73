use Rattle.std.proofs.Common.{refl}
use Rattle.tetra_speech.specs.Reading.{whole_reading}
use Rattle.tetra_speech.proofs.decoding.decode_whole.Goals as goal

pub returns-clause-reading : goal.returns-clause-reading
unfolding whole_reading
returns-clause-reading c =
    let parts = c.decode_whole_into-outcome.ensures.parts in
    rw (parts.mark, parts.metric, parts.bits, parts.rows) refl
