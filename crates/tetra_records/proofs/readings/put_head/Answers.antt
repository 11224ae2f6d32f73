use Rattle.std.proofs.Common.{◌≡◌, length, arith, ap, ◌∙◌}
use Rattle.tetra_bits.specs.Packed.{bytes_for}
use Rattle.tetra_records.specs.lemmas.Lengths.{length-packed}
use Rattle.tetra_records.proofs.readings.put_head.Goals as goal

pub put_bytes-requires : goal.put_bytes-requires
put_bytes-requires c =
    let long : length c.as_slice.result.now ≡ bytes_for (length c.args.message.now) =
    ap length (c.as_slice.ensures.value ∙ c.pack.ensures) ∙ length-packed c.args.message.now in
    omega (arith, long, c.put_bytes-end.ensures.end, c.put_bytes-end.ensures.size)

pub returns-clause-end : goal.returns-clause-end
returns-clause-end c =
    let long : length c.as_slice.result.now ≡ bytes_for (length c.args.message.now) =
    ap length (c.as_slice.ensures.value ∙ c.pack.ensures) ∙ length-packed c.args.message.now in
    omega (arith, long, c.put_bytes-end.ensures.end, c.put_bytes.ensures.end)
