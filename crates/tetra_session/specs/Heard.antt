-- What a receiver answers, and what it stands for.
use Rattle.std.specs.Prelude.{◌≡◌, ℕ, Bool, true, false, cond, List, [], ◌∷◌, ◌++◌, length, map, ℤ, Some, None}
use Rattle.std.specs.declared.option.Option.{Option}
use Rattle.tetra_bits.specs.declared.reading.Mark.{Mark}
use Rattle.tetra_bits.specs.declared.reading.Mark.TheVariants.{Good, Bad, Unchecked, NotYet}
use Rattle.tetra_bursts.specs.Kind.{kind}
use Rattle.tetra_bursts.specs.declared.kinds.Allowed.{Allowed}
use Rattle.tetra_bursts.specs.declared.table.Train.{Train}
use Rattle.tetra_bursts.specs.declared.table.Train.TheVariants.{N, P as PTrain, Y}
use Rattle.tetra_channels.specs.Channels.{half}
use Rattle.tetra_channels.specs.Fields.{coded_reading}
use Rattle.tetra_diag.specs.Diagonal.{gathered, GatherStands}
use Rattle.tetra_scramble.specs.Key.{key_of, zero_key_bits}
use Rattle.tetra_settings.specs.Slots.{timeslot_of, use_of, mode_of, byte_of}
use Rattle.tetra_settings.specs.declared.types.Dir.{Dir}
use Rattle.tetra_settings.specs.declared.types.Dir.TheVariants.{Dl, Ul}
use Rattle.tetra_settings.specs.declared.types.Mode.{Mode}
use Rattle.tetra_settings.specs.declared.types.Settings.{Settings}
use Rattle.tetra_settings.specs.declared.slots.Letter.{Letter}
use Rattle.tetra_settings.specs.declared.slots.Letter.TheVariants.{F, H, S, T, P, C}
use Rattle.tetra_settings.specs.declared.slots.SlotUse.{SlotUse}
use Rattle.tetra_settings.specs.declared.slots.SlotUse.TheVariants.{Signalling, Control, Traffic}
use Rattle.tetra_settings.specs.declared.readings.FieldName.{FieldName}
use Rattle.tetra_settings.specs.declared.readings.FieldName.TheVariants.{Aach, Sync, Half, Hu, Full, D72, D48, D24, Whole, Single}
use Rattle.tetra_settings.specs.declared.readings.Field.{Field}
use Rattle.tetra_settings.specs.declared.readings.SlotReading.{SlotReading}
use Rattle.tetra_session.specs.Readers.{reader, heard_by, read_field, read_front}
use Rattle.tetra_session.specs.Spots.{is_downlink, place, load_place, places_of, spot_values}
use Rattle.tetra_session.specs.Four.{all_brought, FourStand, TurnStands}
use Rattle.tetra_session.specs.Time.{depth}
use Rattle.tetra_session.specs.declared.front.FrontField.{FrontField}
use Rattle.tetra_session.specs.declared.front.Front.{Front}
use Rattle.tetra_session.specs.declared.gathering.GatherLane.{GatherLane}
use Rattle.tetra_session.specs.declared.gathering.GatherLane.TheVariants.{Still, One, Four, Eight}
use Rattle.tetra_session.specs.declared.receiver.Receiver.{Receiver}
use Rattle.tetra_session.specs.declared.spots.Place.{Place}
use Rattle.tetra_session.specs.declared.spots.Spot.TheVariants.{SecondBlock}

-- the training sequences that a slot may have; in control bursts none is asked for
abbrev pub allowed_in : Dir → SlotUse → Allowed
allowed_in Dl Signalling = record { n = true; p = true; y = true }
allowed_in Ul Signalling = record { n = true; p = false; y = false }
allowed_in dir Traffic = record { n = true; p = true; y = false }
allowed_in dir Control = record { n = true; p = false; y = false }

-- the letter of a slot by what it carries and by its kind; y is not allowed in traffic
abbrev pub letter_by : SlotUse → Train → Letter
letter_by Signalling N = F
letter_by Signalling PTrain = H
letter_by Signalling Y = S
letter_by Traffic N = T
letter_by Traffic PTrain = P
letter_by Traffic Y = T
letter_by Control train = C

-- the kind of slot t
abbrev pub kind_heard : Settings → ℕ → List ℤ → Train
kind_heard settings t soft = kind soft (is_downlink settings.dir) (allowed_in settings.dir (use_of settings t))

-- the letter of slot t
unfoldable pub letter_heard : Settings → ℕ → List ℤ → Letter
letter_heard settings t soft = letter_by (use_of settings t) (kind_heard settings t soft)

-- as a byte
abbrev pub slot_letter : Settings → ℕ → List ℤ → ℕ
slot_letter settings t soft = byte_of (letter_heard settings t soft)

-- the key of a field: BSCH has that of no colour
abbrev pub key_for : List Bool → FieldName → List Bool
key_for key Aach = key
key_for key Sync = zero_key_bits
key_for key Half = key
key_for key Hu = key
key_for key Full = key
key_for key D72 = key
key_for key D48 = key
key_for key D24 = key
key_for key Whole = key
key_for key Single = key

-- the values of the field at a place, after its key
unfoldable pub place_values : Dir → List Bool → List ℤ → Place → List ℤ
place_values dir key soft place =
    heard_by (reader place.name) (key_for key place.name) (spot_values dir place.spot soft)

-- whether a message is good
abbrev pub is_good : Mark → Bool
is_good Good = true
is_good Bad = false
is_good Unchecked = false
is_good NotYet = false

-- block 2 is stolen, as it seems: read as a half slot channel it is Good
unfoldable pub second_stolen : Dir → List Bool → List ℤ → Bool
second_stolen dir key soft = is_good (coded_reading half (place_values dir key soft (place Half SecondBlock))).mark

-- the letter of a traffic slot
unfoldable pub traffic_letter : Dir → List ℤ → Letter
traffic_letter dir soft = letter_by Traffic (kind soft (is_downlink dir) (allowed_in dir Traffic))

-- the values of the field at a place, where there is one
abbrev pub values_there : Dir → List Bool → List ℤ → Option Place → List ℤ
values_there dir key soft None = []
values_there dir key soft (Some place) = place_values dir key soft place

-- what a traffic slot brings to its timeslot: of protected data its slot word, in which the values of stolen halves
-- count 0
unfoldable pub word_heard : Dir → List Bool → Mode → List ℤ → List ℤ
word_heard dir key mode soft =
    values_there dir key soft (load_place (traffic_letter dir soft) mode (second_stolen dir key soft))

-- the slot words of timeslot c
abbrev pub words_heard : Settings → ℕ → List (List ℤ) → List (List ℤ)
words_heard settings c history = all_brought (word_heard settings.dir (key_of settings.colour)) settings c history

-- the block of protected data that is complete with the slot that follows these
unfoldable pub block_heard : Settings → List (List ℤ) → List ℤ → Option (List ℤ)
block_heard settings history soft =
    let t = length history in
    let mode = mode_of settings t in
    let word = word_heard settings.dir (key_of settings.colour) mode soft in
    gathered (depth mode) (words_heard settings (timeslot_of settings.at t) history ++ word ∷ [])

-- the values of protected data come over several slots
abbrev pub is_spread : FieldName → Bool
is_spread D48 = true
is_spread D24 = true
is_spread Aach = false
is_spread Sync = false
is_spread Half = false
is_spread Hu = false
is_spread Full = false
is_spread D72 = false
is_spread Whole = false
is_spread Single = false

-- the values of a field: of protected data those of the block that is complete, else those at its place
abbrev pub values_of : FieldName → Option (List ℤ) → List ℤ → Option (List ℤ)
values_of name block values = cond (is_spread name) block (Some values)

-- the field at a place, with its values
unfoldable pub field_heard : Dir → List Bool → Option (List ℤ) → List ℤ → Place → FrontField
field_heard dir key block soft place =
    record { name = place.name; soft = values_of place.name block (place_values dir key soft place) }

-- the field at a place, read
unfoldable pub field_of_place : Settings → List Bool → Option (List ℤ) → List ℤ → Place → Field
field_of_place settings key block soft place =
    read_field settings.rows.0 (field_heard settings.dir key block soft place)

-- the fields of a slot of this letter, with their values
unfoldable pub fields_heard : Dir → Mode → Letter → List Bool → Option (List ℤ) → List ℤ → List FrontField
fields_heard dir mode letter key block soft =
    map (field_heard dir key block soft) (places_of dir letter mode (second_stolen dir key soft))

-- the front of the slot that follows these
unfoldable pub slot_front : Settings → List (List ℤ) → List ℤ → Front
slot_front settings history soft =
    let t = length history in
    let letter = letter_heard settings t soft in
    let block = block_heard settings history soft in
    let fields = fields_heard settings.dir (mode_of settings t) letter (key_of settings.colour) block soft in
    record { letter = byte_of letter; fields = record { items = fields } }

-- the reading of the slot that follows these: what is read of its front
unfoldable pub slot_reading : Settings → List (List ℤ) → List ℤ → SlotReading
slot_reading settings history soft = read_front settings.rows.0 (slot_front settings history soft)

-- a timeslot whose blocks are spread over n slots keeps the last n slot words; nothing where they are not spread
abbrev pub GatherLaneStands : ℕ → List (List ℤ) → GatherLane → Type 0
GatherLaneStands n words Still = n ≡ 0
GatherLaneStands n words (One gather) = (n ≡ 1) × GatherStands 1 words gather
GatherLaneStands n words (Four gather) = (n ≡ 4) × GatherStands 4 words gather
GatherLaneStands n words (Eight gather) = (n ≡ 8) × GatherStands 8 words gather

-- a lane, of any form, of the timeslot of slot t stands for the slot words that its slots brought
abbrev pub HeardStands : {L : Type 0} → (ℕ → List (List ℤ) → L → Type 0) → Settings → ℕ → List (List ℤ) → L → Type 0
HeardStands Stands settings t history lane =
    TurnStands Stands (word_heard settings.dir (key_of settings.colour)) settings t history lane

pub record ReceiverStands (settings : Settings) (history : List (List ℤ)) (receiver : Receiver) : Type 0 where
  pub same : receiver.settings ≡ settings
  pub turn : receiver.turn ≡ length history
  pub timeslots : FourStand GatherLaneStands (word_heard settings.dir (key_of settings.colour)) Still settings history
      receiver.lanes
