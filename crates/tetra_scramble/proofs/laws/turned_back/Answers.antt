use Rattle.tetra_scramble.specs.lemmas.Entries.{turned_back}
use Rattle.tetra_scramble.proofs.laws.turned_back.Goals as goal

pub returns : goal.returns
returns c = turned_back
