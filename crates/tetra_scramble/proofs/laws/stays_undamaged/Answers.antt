use Rattle.tetra_scramble.specs.lemmas.Entries.{stays_undamaged}
use Rattle.tetra_scramble.proofs.laws.stays_undamaged.Goals as goal

pub returns : goal.returns
returns c = stays_undamaged
