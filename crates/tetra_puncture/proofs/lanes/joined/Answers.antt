use Rattle.tetra_puncture.specs.lemmas.Lanes.{joined_odd}
use Rattle.tetra_puncture.proofs.lanes.joined.Goals as goal

pub returns-clause-odd : goal.returns-clause-odd
returns-clause-odd c = joined_odd c.args.even c.args.odd c.requires.0
