use Rattle.tetra_cert.proofs.SixteenLanes.{lane_behind_one}
use Rattle.tetra_cert.proofs.lanes.behind_one.Goals as goal

pub returns-clause-value : goal.returns-clause-value
returns-clause-value c = lane_behind_one c.args.row.now c.told-row
