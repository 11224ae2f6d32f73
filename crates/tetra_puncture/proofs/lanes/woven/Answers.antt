use Rattle.tetra_puncture.specs.lemmas.Lanes.{even_lane, odd_lane}
use Rattle.tetra_puncture.proofs.lanes.woven.Goals as goal

pub returns-clause-even : goal.returns-clause-even
returns-clause-even c = even_lane c.args.even c.args.odd c.requires.0 c.requires.1

pub returns-clause-odd : goal.returns-clause-odd
returns-clause-odd c = odd_lane c.args.even c.args.odd c.requires.0 c.requires.1
