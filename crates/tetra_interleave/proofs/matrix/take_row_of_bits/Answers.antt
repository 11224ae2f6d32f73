use Rattle.std.proofs.Common.{arith, false, ◌∙◌}
use Rattle.tetra_interleave.proofs.ByColumns.{row_more}
use Rattle.tetra_interleave.proofs.matrix.take_row_of_bits.Goals as goal

pub loop-col-preserved : goal.loop-col-preserved
loop-col-preserved g c =
    record {
      size = c.set.ensures.len ∙ c.loop-col.invariant.size;
      taken = λ before.
          row_more false g.row.ROWS g.row.COLS c.args.row c.loop-col.col c.args.x.now c.loop-col.all c.set.new.self _ c.requires.row (omega arith) c.loop-col.invariant.size
          (c.loop-col.invariant.taken before) c.set.ensures.list c.get.ensures;
    }
