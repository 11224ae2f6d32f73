use Rattle.std.proofs.Common.{rules, ◌≡◌, ◌≤◌, ◌<◌, ◌++◌, ◌∷◌, [], length, get_or, arith, ap, sym, subst, ◌∙◌, append_assoc, append-nil}
use Rattle.std.specs.List.{flat_map}
use Rattle.std.proofs.lemmas.List.{take_all}
use Rattle.std.proofs.lemmas.List.Elements.{All-get_or}
use Rattle.tetra_settings.specs.Readings.{IsField}
use Rattle.tetra_records.specs.Readings.{IsSmall, field_bytes, reading_spelling}
use Rattle.tetra_records.specs.lemmas.Lengths.{rooms_by_names, row_fits, rooms_from, spelled_more}
use Rattle.tetra_records.proofs.readings.add_reading.Goals as goal

pub loop-field-init : goal.loop-field-init
loop-field-init g c =
    let fits = row_fits _ _ c.requires.formed.row in
    let same = rooms_by_names c.args.reading.now.fields.items in
    record { bytes = c.push.ensures.items ∙ sym (append-nil _); room = omega (arith, fits, same) }

pub add_field-requires : goal.add_field-requires
add_field-requires g c =
    let items = c.args.reading.now.fields.items in
    let i = c.loop-field.field-index in
    let is : c.field-item.result ≡ get_or items i c.field-item.result = c.field-item.is ∙ ap (λ xs. get_or xs i c.field-item.result) c.as_slice-field-items.ensures.value in
    let within : i < length items = omega (arith, ap length c.as_slice-field-items.ensures.value) in
    let room = rooms_from items i c.field-item.result is within in (
      search rules,
      (
        subst IsField (sym is) (All-get_or IsField items i c.field-item.result within c.requires.formed.fields),
        (
          subst IsSmall (sym is) (All-get_or IsSmall items i c.field-item.result within c.requires.small),
          omega (arith, room),
        ),
      ),
    )

pub loop-field-preserved : goal.loop-field-preserved
loop-field-preserved g c =
    let items = c.args.reading.now.fields.items in
    let i = c.loop-field.field-index in
    let is : c.field-item.result ≡ get_or items i c.field-item.result = c.field-item.is ∙ ap (λ xs. get_or xs i c.field-item.result) c.as_slice-field-items.ensures.value in
    let within : i < length items = omega (arith, ap length c.as_slice-field-items.ensures.value) in
    let room = rooms_from items i c.field-item.result is within in
    record {
      bytes = spelled_more (field_bytes c.args.form) (c.args.out.now.items ++ c.args.reading.now.letter ∷ []) c.loop-field.out.items c.add_field.new.out.items items i c.field-item.result is within c.loop-field.invariant.bytes c.add_field.ensures.bytes;
      room = omega (arith, room);
    }

pub returns : goal.returns
unfolding reading_spelling
returns g c =
    let items = c.args.reading.now.fields.items in
    let whole : length items ≤ c.loop-field.field-index = omega (arith, ap length c.as_slice-field-items.ensures.value) in
    c.loop-field.invariant.bytes
    ∙ ap (λ xs. (c.args.out.now.items ++ c.args.reading.now.letter ∷ []) ++ flat_map (field_bytes c.args.form) xs) (take_all c.loop-field.field-index items whole)
    ∙ append_assoc c.args.out.now.items (c.args.reading.now.letter ∷ []) (flat_map (field_bytes c.args.form) items)
