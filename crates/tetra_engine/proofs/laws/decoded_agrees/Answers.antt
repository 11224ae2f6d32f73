use Rattle.tetra_engine.proofs.OwnAudits.{decoded_agrees}
use Rattle.tetra_engine.proofs.laws.decoded_agrees.Goals as goal

pub returns : goal.returns
returns c = decoded_agrees c.own_records_agree.ensures
