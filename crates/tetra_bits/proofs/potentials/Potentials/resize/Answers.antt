use Rattle.std.proofs.Common.{replicate, arith, refl}
use Rattle.tetra_bits.proofs.Resizing.{filled_more, rows_more}
use Rattle.tetra_bits.proofs.potentials.Potentials.resize.Goals as goal

pub loop-preserved : goal.loop-preserved
loop-preserved c =
    record {
      filled = omega arith;
      short = omega arith;
      rows = filled_more (replicate 16 0) c.args.rows c.args.self.now c.loop.counter c.loop.self-inside.table.items c.push.new.self.items c.loop.invariant.rows c.loop.invariant.filled c.loop-test.true c.push.ensures.items;
      sixteen = rows_more c.loop.self-inside.table.items (replicate 16 0) c.push.new.self.items c.loop.invariant.sixteen refl c.push.ensures.items;
    }
