use Rattle.tetra_gen.specs.lemmas.Turning.{keeps_soft}
use Rattle.tetra_gen.proofs.laws.damage_keeps_soft.Goals as goal

pub returns : goal.returns
returns c = keeps_soft
