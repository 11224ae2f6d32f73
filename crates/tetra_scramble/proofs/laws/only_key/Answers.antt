use Rattle.tetra_scramble.proofs.Recurrence.{only_key}
use Rattle.tetra_scramble.proofs.laws.only_key.Goals as goal

pub returns : goal.returns
returns c = only_key
