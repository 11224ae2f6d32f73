use Rattle.std.proofs.Common.{refl}
use Rattle.tetra_session.specs.Readers.{not_yet}
use Rattle.tetra_session.proofs.fields.read_block.Goals as goal

pub returns-in-None : goal.returns-in-None
unfolding not_yet
returns-in-None c = rw (c.in-None.is, c.zeros-reading.ensures, c.sizes.ensures.sizes, c.drop_potentials.ensures) refl
