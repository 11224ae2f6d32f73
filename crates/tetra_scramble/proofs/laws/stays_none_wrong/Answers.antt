use Rattle.tetra_scramble.specs.lemmas.Entries.{stays_none_wrong}
use Rattle.tetra_scramble.proofs.laws.stays_none_wrong.Goals as goal

pub returns : goal.returns
returns c = stays_none_wrong
