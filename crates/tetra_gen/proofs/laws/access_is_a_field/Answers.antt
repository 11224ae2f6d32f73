use Rattle.tetra_gen.specs.lemmas.Drawing.{access_digits}
use Rattle.tetra_gen.proofs.laws.access_is_a_field.Goals as goal

pub returns : goal.returns
returns c = access_digits
