use Rattle.std.proofs.Common.{rules, ◌≡◌, ◌≤◌, length, arith, ap, ◌∙◌}
use Rattle.tetra_bits.specs.Packed.{bytes_for}
use Rattle.tetra_settings.specs.Readings.{message_bits, certificate_rows}
use Rattle.tetra_records.specs.lemmas.Lengths.{length-packed, table_fits}
use Rattle.tetra_records.proofs.readings.add_field.Goals as goal

pub unwrap-requires : goal.unwrap-requires
unwrap-requires g c =
    let long : length c.as_slice.result.now ≡ bytes_for (message_bits c.args.field.now.name) =
    ap length (c.as_slice.ensures.value ∙ c.pack-bits.ensures) ∙ length-packed c.args.field.now.reading.bits ∙ ap bytes_for c.requires.field.bits in
    c.try_extend_from_slice.ensures.variant.1 (omega arith)

pub add_table-requires : goal.add_table-requires
add_table-requires g c =
    let long : length c.as_slice.result.now ≡ bytes_for (message_bits c.args.field.now.name) =
    ap length (c.as_slice.ensures.value ∙ c.pack-bits.ensures) ∙ length-packed c.args.field.now.reading.bits ∙ ap bytes_for c.requires.field.bits in
    let len = rw c.unwrap.ensures at c.try_extend_from_slice.ensures.len in
    let rows : length c.in-Audit-Some.potentials ≤ certificate_rows c.args.field.now.name =
    table_fits c.args.field.now.name c.args.field.now.reading.mark c.in-Audit-Some.potentials c.args.field.now.reading.potentials c.requires.field.potentials c.in-Audit-Some.is-1 in
    let small = rw c.in-Audit-Some.is-1 at c.requires.small.potentials in
    (search rules, (small, omega arith))

pub returns-in-Audit-Some-clause-len : goal.returns-in-Audit-Some-clause-len
returns-in-Audit-Some-clause-len g c =
    let long : length c.as_slice.result.now ≡ bytes_for (message_bits c.args.field.now.name) =
    ap length (c.as_slice.ensures.value ∙ c.pack-bits.ensures) ∙ length-packed c.args.field.now.reading.bits ∙ ap bytes_for c.requires.field.bits in
    let len = rw c.unwrap.ensures at c.try_extend_from_slice.ensures.len in
    let rows : length c.in-Audit-Some.potentials ≤ certificate_rows c.args.field.now.name =
    table_fits c.args.field.now.name c.args.field.now.reading.mark c.in-Audit-Some.potentials c.args.field.now.reading.potentials c.requires.field.potentials c.in-Audit-Some.is-1 in
    omega arith

pub returns-clause-len : goal.returns-clause-len
returns-clause-len g c =
    let long : length c.as_slice.result.now ≡ bytes_for (message_bits c.args.field.now.name) =
    ap length (c.as_slice.ensures.value ∙ c.pack-bits.ensures) ∙ length-packed c.args.field.now.reading.bits ∙ ap bytes_for c.requires.field.bits in
    let len = rw c.unwrap.ensures at c.try_extend_from_slice.ensures.len in
    omega arith

pub returns-2-clause-len : goal.returns-2-clause-len
returns-2-clause-len g c =
    let long : length c.as_slice.result.now ≡ bytes_for (message_bits c.args.field.now.name) =
    ap length (c.as_slice.ensures.value ∙ c.pack-bits.ensures) ∙ length-packed c.args.field.now.reading.bits ∙ ap bytes_for c.requires.field.bits in
    let len = rw c.unwrap.ensures at c.try_extend_from_slice.ensures.len in
    omega arith
