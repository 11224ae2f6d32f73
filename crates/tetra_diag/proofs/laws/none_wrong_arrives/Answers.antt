use Rattle.tetra_bits.specs.Undamaged.{HasSignOrNone}
use Rattle.tetra_diag.specs.lemmas.Arrives.{arrives}
use Rattle.tetra_diag.proofs.laws.none_wrong_arrives.Goals as goal

pub returns : goal.returns
returns c = λ n blocks words s sizes h. arrives HasSignOrNone n blocks words s sizes h
