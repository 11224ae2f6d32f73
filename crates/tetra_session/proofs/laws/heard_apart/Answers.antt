use Rattle.tetra_session.proofs.HeardApart.{heard_apart}
use Rattle.tetra_session.proofs.laws.heard_apart.Goals as goal

pub returns : goal.returns
returns c = heard_apart
