use Rattle.std.proofs.Common.{◌++◌, ◌∷◌, [], take, refl, ap, sym, ◌∙◌, append_assoc}
use Rattle.tetra_bits.specs.Packed.{packed}
use Rattle.tetra_bits.specs.Parts.{InParts}
use Rattle.tetra_bits.specs.Readings.{mark_byte}
use Rattle.tetra_bits.specs.declared.reading.Outcome.{Outcome}
use Rattle.tetra_records.specs.Readings.{two_bytes}
use Rattle.tetra_records.specs.lemmas.Parts.{bytes_of_parts, bytes_without_rows}
use Rattle.tetra_records.proofs.readings.write_field.Goals as goal

pub returns-in-Some-clause-bytes : goal.returns-in-Some-clause-bytes
returns-in-Some-clause-bytes c =
    let field = c.args.field.now in
    let reading = field.reading in
    let outcome : Outcome = record { mark = reading.mark; metric = reading.metric } in
    let parts : InParts reading outcome reading.bits c.in-Some.potentials = record { mark = refl; metric = refl; bits = refl; rows = rw c.in-Some.is refl } in
    c.write_parts.ensures.bytes
    ∙ ap (λ bytes. take c.args.at c.args.bytes.now ++ bytes) (sym (bytes_of_parts c.args.form field outcome reading.bits c.in-Some.potentials parts))

pub returns-in-None-clause-bytes : goal.returns-in-None-clause-bytes
returns-in-None-clause-bytes c =
    let field = c.args.field.now in
    let reading = field.reading in
    let outcome : Outcome = record { mark = reading.mark; metric = reading.metric } in
    let parts : InParts reading outcome reading.bits [] = record { mark = refl; metric = refl; bits = refl; rows = rw c.in-None.is refl } in
    c.put_head.ensures.bytes
    ∙ append_assoc (take c.args.at c.args.bytes.now) (mark_byte reading.mark ∷ two_bytes reading.metric) (packed reading.bits)
    ∙ ap (λ bytes. take c.args.at c.args.bytes.now ++ bytes)
    (sym (bytes_of_parts c.args.form field outcome reading.bits [] parts ∙ bytes_without_rows c.args.form outcome reading.bits))
