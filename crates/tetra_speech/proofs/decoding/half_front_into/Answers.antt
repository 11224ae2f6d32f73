use Rattle.tetra_speech.specs.Words.{half_front}
use Rattle.tetra_speech.proofs.decoding.half_front_into.Goals as goal

pub returns-clause-values : goal.returns-clause-values
unfolding half_front
returns-clause-values c = c.soft_back_into.ensures.value
