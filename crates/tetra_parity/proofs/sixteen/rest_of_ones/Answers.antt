use Rattle.std.proofs.Common.{arith}
use Rattle.tetra_parity.specs.Parity.{ones_term}
use Rattle.tetra_parity.proofs.Sums.{no_terms, term_more, ones_power, all_ones}
use Rattle.tetra_parity.proofs.sixteen.rest_of_ones.Goals as goal

pub loop-i-init : goal.loop-i-init
loop-i-init c = no_terms (ones_term c.args.size)

pub loop-i-preserved : goal.loop-i-preserved
loop-i-preserved c =
    let term = ones_power c.args.size c.loop-i.i c.power-sum.result c.loop-i-test.true c.power-sum.ensures in
    term_more (ones_term c.args.size) c.loop-i.i c.loop-i.sum c.power-sum.result c.loop-i.invariant term

pub returns : goal.returns
returns c = all_ones c.args.size c.loop-i.i c.loop-i.sum (omega arith) c.loop-i.invariant
