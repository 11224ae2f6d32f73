use Rattle.std.proofs.Common.{refl}
use Rattle.tetra_speech.specs.Reading.{half_reading}
use Rattle.tetra_speech.proofs.decoding.decode_half.Goals as goal

pub returns-clause-reading : goal.returns-clause-reading
unfolding half_reading
returns-clause-reading c =
    let parts = c.decode_half_into-outcome.ensures.parts in
    rw (parts.mark, parts.metric, parts.bits, parts.rows) refl
