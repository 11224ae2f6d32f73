use Rattle.std.proofs.Common.{◌+◌, ◌%◌, ◌^◌, bit_and, replicate}
use Rattle.std.proofs.lemmas.Simd.{length-replicate}
use Rattle.tetra_puncture.specs.lemmas.Lanes.{added_lane, long_of_two}
use Rattle.tetra_puncture.proofs.butterflies.added_where.Goals as goal

pub returns-clause-long : goal.returns-clause-long
returns-clause-long c =
    long_of_two (λ a b. (a + b) % 2 ^ 32) c.args.sums _ 8 c.requires
    (long_of_two (λ a b. bit_and a b) c.args.mask.now (replicate 8 c.args.difference) 8 c.told-mask (length-replicate 8 c.args.difference))

pub returns-clause-value : goal.returns-clause-value
returns-clause-value c = added_lane c.args.sums c.args.mask.now c.args.difference c.requires c.told-mask
