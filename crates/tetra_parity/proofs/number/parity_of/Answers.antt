use Rattle.std.proofs.Common.{take}
use Rattle.tetra_parity.specs.Parity.{parity_bits}
use Rattle.tetra_parity.proofs.Numbers.{none, four, eight, sixteen}
use Rattle.tetra_parity.proofs.number.parity_of.Goals as goal

pub returns-in-Nothing : goal.returns-in-Nothing
unfolding parity_bits
returns-in-Nothing c = rw c.in-Nothing.is none

pub returns-in-Four : goal.returns-in-Four
unfolding parity_bits
returns-in-Four c = rw c.in-Four.is (four (take c.args.size c.args.bits.now) c.register_of.result c.register_of.ensures.value)

pub returns-in-Eight : goal.returns-in-Eight
unfolding parity_bits
returns-in-Eight c =
    rw c.in-Eight.is (eight (take c.args.size c.args.bits.now) c.register_of-seven.result c.from.result c.sum_of.result c.sum_of_seven.result c.register_of-seven.ensures.value c.sum_of.ensures c.sum_of_seven.ensures c.from.ensures)

pub returns-in-Sixteen : goal.returns-in-Sixteen
unfolding parity_bits
returns-in-Sixteen c = rw c.in-Sixteen.is (sixteen (take c.args.size c.args.bits.now) c.sixteen_of.result c.from-in-Sixteen.result c.sixteen_of.ensures c.from-in-Sixteen.ensures)
