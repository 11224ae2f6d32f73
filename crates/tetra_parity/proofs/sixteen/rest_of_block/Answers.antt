use Rattle.std.proofs.Common.{◌*◌, take, arith}
use Rattle.tetra_parity.specs.Parity.{block_term, generator16}
use Rattle.tetra_parity.proofs.Sums.{no_terms, term_more, block_product, whole_block}
use Rattle.tetra_parity.proofs.sixteen.rest_of_block.Goals as goal

pub loop-i-init : goal.loop-i-init
loop-i-init c = no_terms (block_term 16 generator16 (take c.args.size c.args.bits.now))

pub loop-i-preserved : goal.loop-i-preserved
loop-i-preserved c =
    let f = block_term 16 generator16 (take c.args.size c.args.bits.now) in
    let term = block_product c.args.bits.now c.args.size c.loop-i.i c.from.result c.power.result c.get.result c.requires.there c.loop-i-test.true c.from.ensures c.get.ensures c.power.ensures in
    term_more f c.loop-i.i c.loop-i.sum (c.from.result * c.power.result) c.loop-i.invariant term

pub returns : goal.returns
returns c = whole_block c.args.bits.now c.args.size c.loop-i.i c.loop-i.sum c.requires.there (omega arith) c.loop-i.invariant
