use Rattle.tetra_audit.proofs.RightClaims.{agrees_exactly}
use Rattle.tetra_audit.proofs.laws.agrees_exactly.Goals as goal

pub returns : goal.returns
returns c = agrees_exactly
