use Rattle.std.proofs.Common.{arith}
use Rattle.tetra_records.proofs.Rows.{turned_is}
use Rattle.tetra_records.proofs.readings.bytes_of_row.Goals as goal

pub returns : goal.returns
returns c = turned_is c.args.row.now (omega arith) c.requires.small
