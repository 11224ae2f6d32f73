use Rattle.std.proofs.Common.{◌≡◌, length, map, arith, refl, sym, ap, ◌∙◌, subst}
use Rattle.std.proofs.lemmas.List.{length-map}
use Rattle.tetra_session.specs.Heard.{slot_front, slot_reading}
use Rattle.tetra_session.specs.Readers.{read_field, read_front}
use Rattle.tetra_c.specs.Readings.{ArePut, ArePutTo}
use Rattle.tetra_c.specs.Values.{soft_values}
use Rattle.tetra_c.proofs.Fronts.{front_read}
use Rattle.tetra_c.proofs.Putting.{put_goes_on}
use Rattle.tetra_c.proofs.receiver.read_slot.Goals as goal

pub returns-clause-reading : goal.returns-clause-reading
unfolding read_front
returns-clause-reading c = λ history turn h.
    let settings = c.args.settings.now in
    let rows = c.of-code.result.0 in
    let old = c.hear_before_load.new.front in
    let new = c.hear_rest.new.front in
    let soft = soft_values c.args.slot.now in
    let first : ArePutTo (map (read_field rows) c.deref.result.now) c.put_fields-last_good.new.out (length c.deref.result.now) =
    c.put_fields-last_good.ensures.put (λ k below. absurd (omega (arith, below))) in
    let before : ArePutTo (map (read_field rows) c.deref-2.result.now) c.put_fields-last_good.new.out c.len-begun.result =
    put_goes_on rows old new c.hear_rest.ensures.goes_on c.deref.result.now c.deref-2.result.now c.put_fields-last_good.new.out c.len-begun.result
    c.deref.ensures.0 c.deref-2.ensures.0 c.len-begun.ensures.value first in
    let fields : ArePutTo (map (read_field rows) c.deref-2.result.now) c.put_fields.new.out (length c.deref-2.result.now) =
    c.put_fields.ensures.put before in
    let long = length-map new.fields.items (read_field rows) in
    let all : ArePutTo (map (read_field rows) new.fields.items) c.put_fields.new.out (length (map (read_field rows) new.fields.items)) =
    rw (long, ← c.deref-2.ensures.0) fields in
    let front : new ≡ slot_front settings history soft =
    c.hear_rest.ensures.front history turn h ∙ ap (slot_front settings history) c.slot_values-soft.ensures.values in
    let read : read_front rows new ≡ slot_reading settings history soft =
    ap (λ (r : _). read_front r.0 new) c.of-code.ensures ∙ front_read settings settings history soft new refl front in
    let count : c.len.result ≡ length (map (read_field rows) new.fields.items) = c.len.ensures.value ∙ sym long in
    subst (λ reading. ArePut reading (record { letter = new.letter; count = c.len.result; fields = c.put_fields.new.out })) read
    (record { letter = refl; count = count; fields = all })
