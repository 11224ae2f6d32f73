use Rattle.std.proofs.Common.{◌+◌, ◌%◌, ◌^◌}
use Rattle.tetra_puncture.specs.lemmas.Lanes.{lane_of_two, long_of_two}
use Rattle.tetra_puncture.proofs.lanes.summed.Goals as goal

pub returns-clause-long : goal.returns-clause-long
returns-clause-long c = long_of_two (λ a b. (a + b) % 2 ^ 32) c.args.a c.args.b 8 c.requires.0 c.requires.1

pub returns-clause-value : goal.returns-clause-value
returns-clause-value c = lane_of_two (λ a b. (a + b) % 2 ^ 32) c.args.a c.args.b 8 c.requires.0 c.requires.1
