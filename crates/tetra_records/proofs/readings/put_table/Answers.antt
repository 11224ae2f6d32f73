use Rattle.std.proofs.Common.{◌≡◌, ℕ, List, ◌+◌, ◌*◌, ◌++◌, take, arith, ap, ◌∙◌}
use Rattle.std.specs.List.{flat_map}
use Rattle.std.proofs.lemmas.List.{take_all}
use Rattle.tetra_records.specs.Readings.{row_bytes, table_bytes}
use Rattle.tetra_records.proofs.Rows.{rows_more}
use Rattle.tetra_records.proofs.readings.put_table.Goals as goal

pub loop-t-preserved : goal.loop-t-preserved
loop-t-preserved g c =
    let at = c.args.at in
    let t = c.loop-t.t in
    let next : at + 32 * (t + 1) ≡ at + 32 * t + 32 = omega arith in
    record {
      bytes = ap (λ n. take n c.put_row.new.bytes) next
          ∙ rows_more (take at c.args.bytes.now) (take (at + 32 * t) c.loop-t.bytes) (take (at + 32 * t + 32) c.put_row.new.bytes) (g.T.Table.rows_of c.args.table.now) t c.row_at.result.now
          c.row_at.ensures.row (omega arith) c.loop-t.invariant.bytes c.put_row.ensures.bytes;
      size = c.put_row.ensures.size ∙ c.loop-t.invariant.size;
    }

pub returns-clause-bytes : goal.returns-clause-bytes
unfolding table_bytes
returns-clause-bytes g c =
    let rows : List (List ℕ) = g.T.Table.rows_of c.args.table.now in
    let start : List ℕ = take c.args.at c.args.bytes.now in
    let here : List ℕ = take (c.args.at + 32 * c.loop-t.t) c.loop-t.bytes in
    let end : take (c.args.at + 32 * c.count.result) c.loop-t.bytes ≡ here = ap (λ (n : ℕ). take n c.loop-t.bytes) (omega arith) in
    let written : here ≡ start ++ flat_map row_bytes (take c.loop-t.t rows) = c.loop-t.invariant.bytes in
    let all : start ++ flat_map row_bytes (take c.loop-t.t rows) ≡ start ++ flat_map row_bytes rows = ap (λ xs. start ++ flat_map row_bytes xs) (take_all c.loop-t.t rows (omega arith)) in
    end ∙ written ∙ all
