use Rattle.tetra_parity.proofs.Sums.{power_at}
use Rattle.tetra_parity.proofs.powers.power.Goals as goal

pub returns : goal.returns
returns c = power_at c.args.n c.requires
