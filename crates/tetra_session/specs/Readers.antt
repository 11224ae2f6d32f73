-- How a field is read, by its name. This project's own.
use Rattle.std.specs.Prelude.{ℕ, Bool, false, List, [], ℤ, replicate, map, None, Some}
use Rattle.std.specs.declared.option.Option.{Option}
use Rattle.tetra_bits.specs.declared.reading.Mark.TheVariants.{NotYet}
use Rattle.tetra_bits.specs.declared.reading.Reading.{Reading}
use Rattle.tetra_channels.specs.Channels.{Channel, bsch, hu, half, full, data48, data24, front_values}
use Rattle.tetra_channels.specs.Fields.{coded_reading, raw_reading, access_reading}
use Rattle.tetra_puncture.specs.Places.{speech_whole, speech_half}
use Rattle.tetra_puncture.specs.Plan.{CodePlan}
use Rattle.tetra_scramble.specs.Flips.{turned}
use Rattle.tetra_settings.specs.Readings.{message_bits}
use Rattle.tetra_settings.specs.declared.readings.FieldName.{FieldName}
use Rattle.tetra_settings.specs.declared.readings.FieldName.TheVariants.{Aach, Sync, Half, Hu, Full, D72, D48, D24, Whole, Single}
use Rattle.tetra_settings.specs.declared.readings.Field.{Field}
use Rattle.tetra_settings.specs.declared.readings.SlotReading.{SlotReading}
use Rattle.tetra_speech.specs.Frames.{whole_uncoded, whole_coded, half_uncoded, half_coded}
use Rattle.tetra_speech.specs.Reading.{whole_reading, half_reading}
use Rattle.tetra_speech.specs.Words.{whole_front, half_front}
use Rattle.tetra_session.specs.declared.front.FrontField.{FrontField}
use Rattle.tetra_session.specs.declared.front.Front.{Front}

-- by the access code, bit by bit, by the code of a channel, or as speech in a whole slot or in half a slot
pub data Reader : Type 0 where
  Access : Reader
  Plain : Reader
  Trellis : Channel → Reader
  WholeSpeech : Reader
  HalfSpeech : Reader

abbrev pub reader : FieldName → Reader
reader Aach = Access
reader Sync = Trellis bsch
reader Half = Trellis half
reader Hu = Trellis hu
reader Full = Trellis full
reader D72 = Plain
reader D48 = Trellis data48
reader D24 = Trellis data24
reader Whole = WholeSpeech
reader Single = HalfSpeech

-- the part of a field that is read by a trellis: its plan, how many values stand in front that are read one by one, and
-- which of the bits of the field are read one by one and which are the message of the trellis
pub record CodedPart : Type 0 where
  pub plan : CodePlan
  pub before : ℕ
  pub uncoded : List Bool → List Bool
  pub coded : List Bool → List Bool

-- the bits of a channel are the message of its trellis
abbrev pub whole_part : CodePlan → CodedPart
whole_part plan = record { plan = plan; before = 0; uncoded = λ bits. []; coded = λ bits. bits }

-- of speech the bits of class 0 are read one by one
abbrev pub whole_speech_part : CodedPart
whole_speech_part = record { plan = speech_whole; before = 102; uncoded = whole_uncoded; coded = whole_coded }

abbrev pub half_speech_part : CodedPart
half_speech_part = record { plan = speech_half; before = 51; uncoded = half_uncoded; coded = half_coded }

-- the part that a trellis reads, where there is one
abbrev pub coded_part : Reader → Option CodedPart
coded_part Access = None
coded_part Plain = None
coded_part (Trellis channel) = Some (whole_part channel.plan)
coded_part WholeSpeech = Some whole_speech_part
coded_part HalfSpeech = Some half_speech_part

-- received type-5 values of a field after its key, in the order of its type-3 bits where it has a code
abbrev pub heard_by : Reader → List Bool → List ℤ → List ℤ
heard_by Access key values = turned values key 1
heard_by Plain key values = turned values key 1
heard_by (Trellis channel) key values = front_values channel key values
heard_by WholeSpeech key values = whole_front (turned values key 1)
heard_by HalfSpeech key values = half_front (turned values key 1)

-- what is read of such values
abbrev pub read_by : Reader → List ℕ → List ℤ → Reading
read_by Access rows soft = access_reading rows soft
read_by Plain rows soft = raw_reading soft
read_by (Trellis channel) rows soft = coded_reading channel soft
read_by WholeSpeech rows soft = whole_reading soft
read_by HalfSpeech rows soft = half_reading soft

-- the reading of a field of which not all slots have come yet
unfoldable pub not_yet : FieldName → Reading
not_yet name = record { mark = NotYet; metric = 0; bits = replicate (message_bits name) false; potentials = None }

-- the reading of a field by its name and its values. The rows are those of the access code
abbrev pub field_reading : List ℕ → FieldName → Option (List ℤ) → Reading
field_reading rows name None = not_yet name
field_reading rows name (Some soft) = read_by (reader name) rows soft

-- a field of a front, read
unfoldable pub read_field : List ℕ → FrontField → Field
read_field rows field = record { name = field.name; reading = field_reading rows field.name field.soft }

-- a front, read
unfoldable pub read_front : List ℕ → Front → SlotReading
read_front rows front =
    record { letter = front.letter; fields = record { items = map (read_field rows) front.fields.items } }
