use Rattle.std.proofs.Math.Seq.{take-set-lt}
use Rattle.tetra_c.proofs.Putting.{below_front}
use Rattle.tetra_c.proofs.readings.TetraFieldTable.put_row.Goals as goal

pub returns-clause-rows : goal.returns-clause-rows
returns-clause-rows c =
    let rows = c.args.self.now.rows in
    let table = c.args.self.now.potentials in
    take-set-lt rows table c.args.t c.args.row (below_front rows c.args.t table c.requires)
