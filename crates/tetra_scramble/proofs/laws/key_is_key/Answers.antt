use Rattle.tetra_scramble.proofs.Recurrence.{key_is_key}
use Rattle.tetra_scramble.proofs.laws.key_is_key.Goals as goal

pub returns : goal.returns
returns c = key_is_key
