use Rattle.tetra_speech.specs.Words.{whole_front}
use Rattle.tetra_speech.proofs.decoding.whole_front_into.Goals as goal

pub returns-clause-values : goal.returns-clause-values
unfolding whole_front
returns-clause-values c = c.soft_back_into.ensures.value
