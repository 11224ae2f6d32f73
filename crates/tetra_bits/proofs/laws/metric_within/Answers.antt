use Rattle.tetra_bits.specs.lemmas.Within.{metric_within}
use Rattle.tetra_bits.proofs.laws.metric_within.Goals as goal

pub returns : goal.returns
returns c = metric_within
