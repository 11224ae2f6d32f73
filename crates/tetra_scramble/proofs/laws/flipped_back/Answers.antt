use Rattle.tetra_scramble.specs.lemmas.Entries.{flipped_back}
use Rattle.tetra_scramble.proofs.laws.flipped_back.Goals as goal

pub returns : goal.returns
returns c = flipped_back
