use Rattle.tetra_settings.proofs.Fitting.{fits_well_formed}
use Rattle.tetra_settings.proofs.laws.fitting_are_well_formed.Goals as goal

pub returns : goal.returns
returns c = fits_well_formed
