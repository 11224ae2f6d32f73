use Rattle.tetra_gen.specs.lemmas.Turning.{keeps_length}
use Rattle.tetra_gen.proofs.laws.damage_keeps_length.Goals as goal

pub returns : goal.returns
returns c = keeps_length
