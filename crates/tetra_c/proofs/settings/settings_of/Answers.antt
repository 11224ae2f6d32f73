use Rattle.std.proofs.Common.{rules, sym, subst}
use Rattle.tetra_scramble.specs.Colour.{IsColour}
use Rattle.tetra_settings.specs.Validity.{IsValid}
use Rattle.tetra_c.specs.Settings.{settings_of}
use Rattle.tetra_c.proofs.Modes.{settings_valid}
use Rattle.tetra_c.proofs.settings.settings_of.Goals as goal

pub returns-clause-value : goal.returns-clause-value
unfolding settings_of
returns-clause-value c = search rules

pub returns-clause-valid : goal.returns-clause-valid
returns-clause-valid c =
    subst IsValid (sym (returns-clause-value c))
    (settings_valid c.args.settings.now (subst IsColour c.requires.same c.requires.colour) (search rules) c.requires.modes c.requires.place)
