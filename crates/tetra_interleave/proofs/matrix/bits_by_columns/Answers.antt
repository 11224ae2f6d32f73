use Rattle.std.proofs.Common.{arith, false}
use Rattle.tetra_interleave.proofs.ByColumns.{all_rows}
use Rattle.tetra_interleave.proofs.matrix.bits_by_columns.Goals as goal

pub loop-row-preserved : goal.loop-row-preserved
loop-row-preserved g c =
    record {
      size = c.take_row_of_bits.ensures.room;
      taken = c.take_row_of_bits.ensures.taken c.loop-row.invariant.taken;
    }

pub returns : goal.returns
returns g c = all_rows false g.row.ROWS g.row.COLS c.loop-row.row c.args.x.now _ (omega arith) c.loop-row.invariant.size c.loop-row.invariant.taken
