use Rattle.tetra_audit.proofs.Tables.{number_of}
use Rattle.tetra_audit.proofs.claims.numbers_of.Goals as goal

pub returns-clause-value : goal.returns-clause-value
returns-clause-value c = number_of c.args.bytes c.requires.long c.requires.bytes
