use Rattle.tetra_bursts.proofs.FieldLemmas.{field_sizes}
use Rattle.tetra_bursts.proofs.laws.field_sizes.Goals as goal

pub returns : goal.returns
returns c = field_sizes
