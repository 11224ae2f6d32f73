use Rattle.std.proofs.Common.{arith, rules, pos, FitsSigned, w16, ◌∙◌}
use Rattle.std.proofs.lemmas.Int.{to_z-of_z}
use Rattle.tetra_interleave.proofs.ByColumns.{row_more}
use Rattle.tetra_interleave.proofs.matrix.take_row_of_values.Goals as goal

pub loop-col-preserved : goal.loop-col-preserved
loop-col-preserved g c =
    let fits : FitsSigned w16 c.get.result = search rules in
    let list = simp to_z-of_z at c.set.ensures.list in
    record {
      size = c.set.ensures.len ∙ c.loop-col.invariant.size;
      taken = λ before.
          row_more (pos 0) g.row.ROWS g.row.COLS c.args.row c.loop-col.col c.args.x.now c.loop-col.all c.set.new.self _ c.requires.row (omega arith) c.loop-col.invariant.size
          (c.loop-col.invariant.taken before) list c.get.ensures.value;
    }
