use Rattle.std.proofs.Common.{ℕ, ◌≡◌, ◌≤◌, ◌<◌, ◌++◌, ◌∷◌, [], length, take, get_or, arith, ap, sym, subst, ◌∙◌, append_assoc, append-nil}
use Rattle.std.specs.List.{flat_map}
use Rattle.std.proofs.lemmas.List.{take_all, take_more_set}
use Rattle.std.proofs.Math.ListN.{length-set}
use Rattle.std.proofs.lemmas.List.Elements.{All-get_or}
use Rattle.tetra_settings.specs.Readings.{IsField}
use Rattle.tetra_records.specs.Readings.{IsSmall, field_bytes, reading_spelling}
use Rattle.tetra_records.specs.lemmas.Lengths.{rooms_by_names, row_fits, rooms_from, spelled_more}
use Rattle.tetra_records.proofs.readings.write_reading.Goals as goal

pub loop-field-init : goal.loop-field-init
loop-field-init c =
    let fits = row_fits _ _ c.requires.formed.row in
    let same = rooms_by_names c.args.reading.now.fields.items in
    record {
      bytes = take_more_set c.args.bytes.now c.args.at c.args.reading.now.letter (omega arith) ∙ sym (append-nil _);
      room = omega (arith, fits, same);
      size = length-set {A = ℕ} _ _ _;
    }

pub write_field-end-requires : goal.write_field-end-requires
write_field-end-requires c =
    let items = c.args.reading.now.fields.items in
    let i = c.loop-field.field-index in
    let is : c.field-item.result ≡ get_or items i c.field-item.result = c.field-item.is ∙ ap (λ xs. get_or xs i c.field-item.result) c.as_slice-field-items.ensures.value in
    let within : i < length items = omega (arith, ap length c.as_slice-field-items.ensures.value) in
    let room = rooms_from items i c.field-item.result is within in
    record {
      field = subst IsField (sym is) (All-get_or IsField items i c.field-item.result within c.requires.formed.fields);
      small = subst IsSmall (sym is) (All-get_or IsSmall items i c.field-item.result within c.requires.small);
      room = omega (arith, room, c.loop-field.invariant.room, c.loop-field.invariant.size);
    }

pub loop-field-preserved : goal.loop-field-preserved
loop-field-preserved c =
    let items = c.args.reading.now.fields.items in
    let i = c.loop-field.field-index in
    let is : c.field-item.result ≡ get_or items i c.field-item.result = c.field-item.is ∙ ap (λ xs. get_or xs i c.field-item.result) c.as_slice-field-items.ensures.value in
    let within : i < length items = omega (arith, ap length c.as_slice-field-items.ensures.value) in
    let room = rooms_from items i c.field-item.result is within in
    record {
      bytes = spelled_more (field_bytes c.args.form) (take c.args.at c.args.bytes.now ++ c.args.reading.now.letter ∷ []) (take c.loop-field.end c.loop-field.bytes) (take c.write_field-end.result c.write_field-end.new.bytes) items i c.field-item.result is within
          c.loop-field.invariant.bytes c.write_field-end.ensures.bytes;
      room = omega (arith, room, c.write_field-end.ensures.end, c.loop-field.invariant.room);
      size = c.write_field-end.ensures.size ∙ c.loop-field.invariant.size;
    }

pub returns-clause-bytes : goal.returns-clause-bytes
unfolding reading_spelling
returns-clause-bytes c =
    let items = c.args.reading.now.fields.items in
    let whole : length items ≤ c.loop-field.field-index = omega (arith, ap length c.as_slice-field-items.ensures.value) in
    c.loop-field.invariant.bytes
    ∙ ap (λ xs. (take c.args.at c.args.bytes.now ++ c.args.reading.now.letter ∷ []) ++ flat_map (field_bytes c.args.form) xs) (take_all c.loop-field.field-index items whole)
    ∙ append_assoc (take c.args.at c.args.bytes.now) (c.args.reading.now.letter ∷ []) (flat_map (field_bytes c.args.form) items)
