use Rattle.std.proofs.Common.{◌≡◌, ◌+◌, ◌++◌, length, take, arith, ap, ◌∙◌}
use Rattle.std.proofs.lemmas.Simd.{take_more_put_chunk}
use Rattle.tetra_records.proofs.Rows.{length-row}
use Rattle.tetra_records.proofs.readings.put_row.Goals as goal

pub returns-clause-bytes : goal.returns-clause-bytes
returns-clause-bytes c =
    let long : length c.bytes_of_row.result ≡ 32 = ap length c.bytes_of_row.ensures ∙ length-row c.args.row.now (omega arith) in
    take_more_put_chunk c.args.at c.args.bytes.now c.bytes_of_row.result (c.args.at + 32) (omega (arith, long)) c.requires.room
    ∙ ap (λ r. take c.args.at c.args.bytes.now ++ r) c.bytes_of_row.ensures
