use Rattle.std.proofs.Common.{◌≡◌, ◌≤◌, ◌+◌, ◌++◌, ◌∷◌, [], length, map, take, drop, set, arith, ap, refl, sym, subst, ◌∙◌}
use Rattle.std.specs.List.{flat_map}
use Rattle.std.specs.Prelude.{All}
use Rattle.std.proofs.lemmas.List.{take_more_set}
use Rattle.std.proofs.lemmas.List.Elements.{All-drop}
use Rattle.tetra_records.specs.Readings.{field_bytes, reading_spelling}
use Rattle.tetra_records.specs.lemmas.Lengths.{rooms_left}
use Rattle.tetra_session.specs.Fronts.{IsFrontField}
use Rattle.tetra_session.specs.Heard.{slot_front, slot_reading}
use Rattle.tetra_session.specs.Readers.{read_field, read_front}
use Rattle.tetra_c.specs.Values.{soft_values}
use Rattle.tetra_c.proofs.Fronts.{front_read, begun_fits, rest_fits, spelled_in_two, from_place}
use Rattle.tetra_c.proofs.records.record_slot.Goals as goal

pub put_fields-first-requires-clause-room : goal.put_fields-first-requires-clause-room
put_fields-first-requires-clause-room c =
    rw c.deref.ensures.0
    (begun_fits c.of-code.result.0 c.args.settings.now c.args.turn c.slot_values-soft.result c.hear_before_load.new.front c.hear_before_load.ensures.begun)

pub put_fields-requires-clause-formed : goal.put_fields-requires-clause-formed
put_fields-requires-clause-formed c =
    let items = c.hear_rest.new.front.fields.items in
    subst (All IsFrontField) (sym (from_place c.len-begun.result c.deref-2.result.now items c.deref-2.ensures.0))
    (All-drop IsFrontField c.len-begun.result items c.hear_rest.ensures.well_formed.fields)

pub put_fields-requires-clause-room : goal.put_fields-requires-clause-room
put_fields-requires-clause-room c =
    let rows = c.of-code.result.0 in
    let old = c.hear_before_load.new.front in
    let new = c.hear_rest.new.front in
    let fits = rest_fits rows old new c.hear_rest.ensures.goes_on c.hear_rest.ensures.well_formed in
    let slice = from_place c.len-begun.result c.deref-2.result.now new.fields.items c.deref-2.ensures.0
    ∙ ap (λ n. drop n new.fields.items) c.len-begun.ensures.value in
    let first : c.put_fields-first.result.end ≤ 1 + rooms_left (map (read_field rows) old.fields.items) =
    rw (← c.deref.ensures.0) c.put_fields-first.ensures.room in
    rw slice (omega (arith, first, fits))

pub overflow_cast-result : goal.overflow_cast-result
overflow_cast-result c =
    let rows = c.of-code.result.0 in
    let old = c.hear_before_load.new.front in
    let new = c.hear_rest.new.front in
    let fits = rest_fits rows old new c.hear_rest.ensures.goes_on c.hear_rest.ensures.well_formed in
    let slice = from_place c.len-begun.result c.deref-2.result.now new.fields.items c.deref-2.ensures.0
    ∙ ap (λ n. drop n new.fields.items) c.len-begun.ensures.value in
    let first : c.put_fields-first.result.end ≤ 1 + rooms_left (map (read_field rows) old.fields.items) =
    rw (← c.deref.ensures.0) c.put_fields-first.ensures.room in
    let second : c.put_fields.result.end ≤ c.put_fields-first.result.end + rooms_left (map (read_field rows) (drop (length old.fields.items) new.fields.items)) =
    rw (← slice) c.put_fields.ensures.room in
    omega (arith, first, fits, second)

pub returns-clause-bytes : goal.returns-clause-bytes
unfolding reading_spelling read_front
returns-clause-bytes c = λ history turn h.
    let settings = c.args.settings.now in
    let form = c.args.form in
    let rows = c.of-code.result.0 in
    let old = c.hear_before_load.new.front in
    let new = c.hear_rest.new.front in
    let soft = soft_values c.args.slot.now in
    let slice = from_place c.len-begun.result c.deref-2.result.now new.fields.items c.deref-2.ensures.0
    ∙ ap (λ n. drop n new.fields.items) c.len-begun.ensures.value in
    let start = take 1 (set c.args.bytes.now 0 old.letter) in
    let first : take c.put_fields-first.result.end c.put_fields-first.new.bytes ≡ start ++ flat_map (field_bytes form) (map (read_field rows) old.fields.items) =
    c.put_fields-first.ensures.bytes ∙ ap (λ l. start ++ flat_map (field_bytes form) (map (read_field rows) l)) c.deref.ensures.0 in
    let second = c.put_fields.ensures.bytes
    ∙ ap (λ l. take c.put_fields-first.result.end c.put_fields-first.new.bytes ++ flat_map (field_bytes form) (map (read_field rows) l)) slice in
    let begin : start ≡ new.letter ∷ [] =
    take_more_set c.args.bytes.now 0 old.letter (omega arith) ∙ ap (λ l. l ∷ []) (sym c.hear_rest.ensures.goes_on.letter) in
    let front : new ≡ slot_front settings history soft =
    c.hear_rest.ensures.front history turn h ∙ ap (slot_front settings history) c.slot_values-soft.ensures.values in
    let read : read_front rows new ≡ slot_reading settings history soft =
    ap (λ (r : _). read_front r.0 new) c.of-code.ensures ∙ front_read settings settings history soft new refl front in
    spelled_in_two rows old new c.hear_rest.ensures.goes_on (field_bytes form) start _ _ first second
    ∙ ap (λ l. l ++ flat_map (field_bytes form) (map (read_field rows) new.fields.items)) begin
    ∙ ap (reading_spelling form) read
