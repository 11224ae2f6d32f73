use Rattle.tetra_bursts.proofs.KindLemmas.{only_kind}
use Rattle.tetra_bursts.proofs.laws.only_kind.Goals as goal

pub returns : goal.returns
returns c = only_kind
