use Rattle.std.proofs.Common.{rules, ◌≡◌, ◌<◌, ◌+◌, ◌-◌, ◌++◌, length, map, take, get_or, arith, ap, refl, sym, ◌∙◌}
use Rattle.std.proofs.lemmas.List.{length-map, get_or_default}
use Rattle.tetra_records.specs.Readings.{field_bytes}
use Rattle.tetra_records.specs.lemmas.Lengths.{rooms_from, spelled_more}
use Rattle.tetra_records.specs.lemmas.Parts.{bytes_of_parts, parts_fit, small_parts}
use Rattle.tetra_session.specs.Heard.{is_good}
use Rattle.tetra_session.specs.Readers.{read_field}
use Rattle.tetra_session.specs.declared.front.FrontField.{FrontField}
use Rattle.tetra_c.specs.Readings.{rows_of}
use Rattle.tetra_c.proofs.Fronts.{read_at}
use Rattle.tetra_c.proofs.Small.{small_field}
use Rattle.tetra_c.proofs.records.put_fields.Goals as goal

pub write_parts-end-requires-clause-small : goal.write_parts-end-requires-clause-small
write_parts-end-requires-clause-small c =
    let field = read_field c.args.code.now.0 c.index-fields-i.result in
    small_parts field c.read_heard-outcome.result c.read_heard-outcome.new.message (rows_of c.read_heard-outcome.new.table)
    c.read_heard-outcome.ensures.parts (small_field field c.read_heard-outcome.ensures.small)

pub write_parts-end-requires-clause-room : goal.write_parts-end-requires-clause-room
write_parts-end-requires-clause-room c =
    let rows = c.args.code.now.0 in
    let items = c.args.fields.now in
    let fields = map (read_field rows) items in
    let i = c.loop-i.i in
    let heard = c.index-fields-i.result in
    let field = read_field rows heard in
    let is : heard ≡ get_or items i heard = c.index-fields-i.is in
    let within : i < length items = search rules in
    let here : field ≡ get_or fields i field = read_at rows items i heard field field is within refl in
    let room = rooms_from fields i field here (omega (arith, within, length-map items (read_field rows))) in
    let fit = parts_fit field c.read_heard-outcome.result c.read_heard-outcome.new.message (rows_of c.read_heard-outcome.new.table)
    c.read_heard-outcome.ensures.parts c.read_heard-outcome.ensures.formed in
    let enough = c.requires.room in
    omega (arith, room, fit, enough, c.loop-i.invariant.room, c.loop-i.invariant.size)

pub loop-i-preserved : goal.loop-i-preserved
loop-i-preserved c =
    let rows = c.args.code.now.0 in
    let items = c.args.fields.now in
    let fields = map (read_field rows) items in
    let i = c.loop-i.i in
    let heard = c.index-fields-i.result in
    let field = read_field rows heard in
    let is : heard ≡ get_or items i heard = c.index-fields-i.is in
    let within : i < length items = search rules in
    let here : field ≡ get_or fields i field = read_at rows items i heard field field is within refl in
    let below : i < length fields = omega (arith, within, length-map items (read_field rows)) in
    let room = rooms_from fields i field here below in
    let parts = c.read_heard-outcome.ensures.parts in
    let fit = parts_fit field c.read_heard-outcome.result c.read_heard-outcome.new.message (rows_of c.read_heard-outcome.new.table)
    parts c.read_heard-outcome.ensures.formed in
    let spelled : take c.write_parts-end.result c.write_parts-end.new.bytes ≡ take c.loop-i.end c.loop-i.bytes ++ field_bytes c.args.form field =
    c.write_parts-end.ensures.bytes
    ∙ ap (λ bytes. take c.loop-i.end c.loop-i.bytes ++ bytes)
    (sym (bytes_of_parts c.args.form field c.read_heard-outcome.result c.read_heard-outcome.new.message (rows_of c.read_heard-outcome.new.table) parts)) in
    let back : i ≡ i + 1 - 1 = omega arith in
    record {
      bytes = spelled_more (field_bytes c.args.form) (take c.args.at c.args.bytes.now) (take c.loop-i.end c.loop-i.bytes) (take c.write_parts-end.result c.write_parts-end.new.bytes) fields i field here below
          c.loop-i.invariant.bytes spelled;
      room = omega (arith, room, fit, c.write_parts-end.ensures.end, c.loop-i.invariant.room);
      size = c.write_parts-end.ensures.size ∙ c.loop-i.invariant.size;
      last = λ some other. c.is_good-last_good.ensures ∙ ap is_good parts.mark
          ∙ ap (λ (f : FrontField). is_good (read_field rows f).reading.mark)
          (is ∙ get_or_default items i heard other within ∙ ap (λ n. get_or items n other) back);
    }
