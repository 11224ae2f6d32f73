use Rattle.tetra_gen.specs.lemmas.Fitting.{made_fits}
use Rattle.tetra_gen.proofs.laws.made_fit.Goals as goal

pub returns : goal.returns
returns c = made_fits
