use Rattle.tetra_session.proofs.SentApart.{sent_apart}
use Rattle.tetra_session.proofs.laws.sent_apart.Goals as goal

pub returns : goal.returns
returns c = sent_apart
