use Rattle.std.proofs.Common.{[], arith, ◌∙◌}
use Rattle.tetra_bits.specs.lemmas.InPlace.{begins_none, begins_set, begins_all}
use Rattle.tetra_audit.specs.Claims.{claimed_row, claimed_table}
use Rattle.tetra_audit.proofs.claims.read_table.Goals as goal

pub loop-t-init : goal.loop-t-init
loop-t-init c = record { size = c.resize.ensures.len; written = begins_none (claimed_row c.args.bytes.now) [] c.resize.new.self }

pub loop-t-preserved : goal.loop-t-preserved
loop-t-preserved c = record {
  size = c.set_row.ensures.len ∙ c.loop-t.invariant.size;
  written = begins_set (claimed_row c.args.bytes.now) [] c.loop-t.t c.loop-t.table c.set_row.new.self c.row_at.result c.loop-t.invariant.written c.set_row.ensures.rows
      (omega (arith, c.loop-t.invariant.size)) c.row_at.ensures;
}

pub returns-clause-table : goal.returns-clause-table
unfolding claimed_table
returns-clause-table c = begins_all (claimed_row c.args.bytes.now) [] c.args.rows c.loop-t.t c.loop-t.table c.loop-t.invariant.size c.loop-t.invariant.written (omega arith)
