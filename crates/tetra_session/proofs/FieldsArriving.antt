-- What is read of undamaged fields.
use Rattle.std.proofs.Common.{ℕ, ℤ, ◌≡◌, ◌+◌, Bool, List, length, get_or, take, drop, arith, ap, sym, subst, ◌∙◌}
use Rattle.std.proofs.lemmas.List.{length-take-le, length-drop}
use Rattle.tetra_bits.specs.Undamaged.{IsUndamaged, IsNoneWrong}
use Rattle.tetra_bits.specs.declared.reading.Mark.TheVariants.{Good, Unchecked}
use Rattle.tetra_bursts.specs.Arrives.{FieldsArrive, KindArrives}
use Rattle.tetra_channels.specs.Channels.{Channel, bsch, hu, half, full, message_of, type5_bits, front_values, raw_bits}
use Rattle.tetra_channels.specs.Fields.{coded_reading, raw_reading}
use Rattle.tetra_channels.specs.Laws.{UndamagedIsRead, UndamagedRawIsRead, NoneWrongRawIsRead, UndamagedAccessIsRead, IsUpTo, written_reading, written_plain}
use Rattle.tetra_parity.specs.Marks.{good_mark}
use Rattle.tetra_parity.specs.Parity.{width}
use Rattle.tetra_scramble.specs.Flips.{flipped, turned, FlippedBack, StaysUndamaged}
use Rattle.tetra_settings.specs.declared.readings.Field.{Field}
use Rattle.tetra_settings.specs.declared.readings.FieldName.{FieldName}
use Rattle.tetra_settings.specs.declared.readings.FieldName.TheVariants.{D72 as D72Name, Whole as WholeName, Single as SingleName}
use Rattle.tetra_settings.specs.declared.readings.SlotReading.{SlotReading}
use Rattle.tetra_speech.specs.Laws.{UndamagedSpeechArrives, UndamagedSpeechIsRead, whole_written, half_written}
use Rattle.tetra_speech.specs.Reading.{whole_reading, half_reading}
use Rattle.tetra_speech.specs.Words.{whole_message, whole_type3, whole_type4, whole_front, half_message, half_type3, half_type4, half_front}
use Rattle.tetra_session.specs.Arrives.{HasField, HasFieldUpTo}

-- a field that is there, by what is read of it
pub coded_field : (channel : Channel) → UndamagedIsRead channel → (key block : List Bool) (values : List ℤ) (reading : SlotReading) (i : ℕ) (name : FieldName) (field : Field)
    → ((other : Field) → get_or reading.fields.items i other ≡ field) → field.name ≡ name → field.reading ≡ coded_reading channel (front_values channel key values)
    → length block + width channel.parity + 4 ≡ channel.plan.steps → IsUndamaged (type5_bits channel key block) values
    → HasField reading i name (good_mark channel.parity) (message_of channel block)
unfolding written_reading
coded_field channel read key block values reading i name field there named is size u =
    let e = is ∙ read key block values size u in
    record { field = field; there = there; name_is = named; mark_is = ap (λ r. r.mark) e; free = ap (λ r. r.metric) e; bits_are = ap (λ r. r.bits) e }

pub plain_field : (reading : SlotReading) (i : ℕ) (name : FieldName) (field : Field) (bits : List Bool)
    → ((other : Field) → get_or reading.fields.items i other ≡ field) → field.name ≡ name → field.reading ≡ written_plain bits → HasField reading i name Unchecked bits
unfolding written_plain
plain_field reading i name field bits there named e =
    record { field = field; there = there; name_is = named; mark_is = ap (λ r. r.mark) e; free = ap (λ r. r.metric) e; bits_are = ap (λ r. r.bits) e }

-- the same, but for bits that may stand before the written ones
pub up_to_field : (reading : SlotReading) (i : ℕ) (field : Field) (key bits : List Bool) (values : List ℤ) → NoneWrongRawIsRead
    → ((other : Field) → get_or reading.fields.items i other ≡ field) → field.name ≡ D72Name → field.reading ≡ raw_reading (turned values key 1)
    → IsNoneWrong (raw_bits key bits) values → HasFieldUpTo reading i D72Name Unchecked bits
unfolding raw_reading
up_to_field reading i field key bits values read there named e h =
    let found = read key bits values h in
    record {
      field = field;
      there = there;
      name_is = named;
      mark_is = ap (λ r. r.mark) e;
      free = ap (λ r. r.metric) e;
      up_to = subst (λ r. IsUpTo bits r.bits) (sym e) found.up_to;
    }

pub record Laws : Type 0 where
  pub bsch_read : UndamagedIsRead bsch
  pub hu_read : UndamagedIsRead hu
  pub half_read : UndamagedIsRead half
  pub full_read : UndamagedIsRead full
  pub raw_read : UndamagedRawIsRead
  pub raw_up_to : NoneWrongRawIsRead
  pub access_read : UndamagedAccessIsRead
  pub fields : FieldsArrive
  pub kinds : KindArrives
  pub back : FlippedBack
  pub stays : StaysUndamaged
  pub speech_arrives : UndamagedSpeechArrives
  pub speech_read : UndamagedSpeechIsRead

-- the signs turned back
undamaged_turned : Laws → (x key : List Bool) (values : List ℤ) → IsUndamaged (flipped x key 1) values → IsUndamaged x (turned values key 1)
undamaged_turned laws x key values u = subst (λ bits. IsUndamaged bits (turned values key 1)) (laws.back x key 1) (laws.stays (flipped x key 1) values key 1 u)

-- a field of speech in a whole slot, by what is read of it
pub speech_field : Laws → (key a b : List Bool) (values : List ℤ) (reading : SlotReading) (i : ℕ) (field : Field)
    → ((other : Field) → get_or reading.fields.items i other ≡ field) → field.name ≡ WholeName → field.reading ≡ whole_reading (whole_front (turned values key 1))
    → length a ≡ 137 → length b ≡ 137 → IsUndamaged (flipped (whole_type4 a b) key 1) values → HasField reading i WholeName Good (whole_message a b)
unfolding whole_written
speech_field laws key a b values reading i field there named is first second u =
    let type_4 : IsUndamaged (whole_type4 a b) (turned values key 1) = undamaged_turned laws (whole_type4 a b) key values u in
    let type_3 : IsUndamaged (whole_type3 a b) (whole_front (turned values key 1)) = laws.speech_arrives.whole a b (turned values key 1) type_4 in
    let e = is ∙ laws.speech_read.whole a b (whole_front (turned values key 1)) first second type_3 in
    record { field = field; there = there; name_is = named; mark_is = ap (λ r. r.mark) e; free = ap (λ r. r.metric) e; bits_are = ap (λ r. r.bits) e }

-- and in half a slot
pub frame_field : Laws → (key frame : List Bool) (values : List ℤ) (reading : SlotReading) (i : ℕ) (field : Field)
    → ((other : Field) → get_or reading.fields.items i other ≡ field) → field.name ≡ SingleName → field.reading ≡ half_reading (half_front (turned values key 1))
    → length frame ≡ 137 → IsUndamaged (flipped (half_type4 frame) key 1) values → HasField reading i SingleName Good (half_message frame)
unfolding half_written
frame_field laws key frame values reading i field there named is size u =
    let type_4 : IsUndamaged (half_type4 frame) (turned values key 1) = undamaged_turned laws (half_type4 frame) key values u in
    let type_3 : IsUndamaged (half_type3 frame) (half_front (turned values key 1)) = laws.speech_arrives.half frame (turned values key 1) type_4 in
    let e = is ∙ laws.speech_read.half frame (half_front (turned values key 1)) size type_3 in
    record { field = field; there = there; name_is = named; mark_is = ap (λ r. r.mark) e; free = ap (λ r. r.metric) e; bits_are = ap (λ r. r.bits) e }

-- the two frames of a load of speech
module _ (load : List Bool) (size : length load ≡ 274) where
  pub frame_a : length (take 137 load) ≡ 137
  frame_a = length-take-le 137 load (omega (arith, size))

  pub frame_b : length (take 137 (drop 137 load)) ≡ 137
  frame_b = let d = length-drop 137 load in length-take-le 137 (drop 137 load) (omega (arith, size, d))
