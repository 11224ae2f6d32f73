use Rattle.std.proofs.Common.{sym, subst}
use Rattle.tetra_settings.specs.Words.{texts}
use Rattle.tetra_settings.specs.Faults.{NamesFirst}
use Rattle.tetra_settings.proofs.FirstFaults.{meaning_names_first}
use Rattle.tetra_settings.proofs.Modes.{meaning_valid}
use Rattle.tetra_settings.proofs.words.read_words.Goals as goal

pub returns-clause-first : goal.returns-clause-first
returns-clause-first c = subst (NamesFirst (texts c.args.words.now)) (sym c.read.ensures.meaning) (meaning_names_first (texts c.args.words.now))

pub returns-clause-valid : goal.returns-clause-valid
returns-clause-valid c = meaning_valid (texts c.args.words.now) c.read.result c.read.ensures.meaning c.read.ensures.ranges
