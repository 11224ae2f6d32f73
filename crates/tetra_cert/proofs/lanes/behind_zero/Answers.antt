use Rattle.tetra_cert.proofs.SixteenLanes.{lane_behind_zero}
use Rattle.tetra_cert.proofs.lanes.behind_zero.Goals as goal

pub returns-clause-value : goal.returns-clause-value
returns-clause-value c = lane_behind_zero c.args.row.now c.told-row
