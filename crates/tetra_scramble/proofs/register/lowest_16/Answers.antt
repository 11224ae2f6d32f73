use Rattle.tetra_scramble.proofs.Table.{lowest}
use Rattle.tetra_scramble.proofs.register.lowest_16.Goals as goal

pub returns : goal.returns
returns c = lowest c.args.number
