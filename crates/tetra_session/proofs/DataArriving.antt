-- What is read of protected data.
use Rattle.std.proofs.Common.{ℕ, ℤ, ◌≡◌, ◌-◌, ◌<◌, ◌≤◌, Bool, true, false, List, [], ◌∷◌, ◌++◌, length, map, replicate, get_or, Option, Some, None, cond, arith, refl, ap, sym, subst, ◌∙◌}
use Rattle.std.proofs.lemmas.List.{length_push, get_or_default, map-append, append-nil}
use Rattle.tetra_bits.specs.Numbered.{numbered}
use Rattle.tetra_bits.specs.declared.reading.Reading.{Reading}
use Rattle.tetra_bits.specs.declared.reading.Mark.TheVariants.{Unchecked, NotYet}
use Rattle.tetra_bursts.specs.Arrives.{FieldsArrive, KindArrives}
use Rattle.tetra_bursts.specs.Kind.{kind}
use Rattle.tetra_bursts.specs.declared.table.Train.{Train}
use Rattle.tetra_bursts.specs.declared.table.Train.TheVariants.{N, P as PTrain, Y}
use Rattle.tetra_channels.specs.Channels.{Channel, half, data48, data24, message_of}
use Rattle.tetra_channels.specs.Fields.{coded_reading}
use Rattle.tetra_channels.specs.Laws.{UndamagedIsRead, IsUpTo, written_reading}
use Rattle.tetra_diag.specs.Arrives.{UndamagedArrives, NoneWrongArrives}
use Rattle.tetra_diag.specs.Diagonal.{gathered, gathered_value}
use Rattle.tetra_parity.specs.Marks.{mark_by, mark_of, good_mark}
use Rattle.tetra_parity.specs.Parity.{with_parity, parity_bits}
use Rattle.tetra_parity.specs.declared.kind.Parity.TheVariants.{Nothing}
use Rattle.tetra_scramble.specs.Key.{key_of}
use Rattle.tetra_settings.specs.Readings.{traffic_name, message_bits}
use Rattle.tetra_settings.specs.Slots.{timeslot_of, use_of, mode_of}
use Rattle.tetra_settings.specs.declared.types.Dir.{Dir}
use Rattle.tetra_settings.specs.declared.types.Dir.TheVariants.{Dl, Ul}
use Rattle.tetra_settings.specs.declared.types.Mode.{Mode}
use Rattle.tetra_settings.specs.declared.types.Settings.{Settings}
use Rattle.tetra_settings.specs.declared.slots.Letter.{Letter}
use Rattle.tetra_settings.specs.declared.slots.SlotUse.TheVariants.{Traffic as TrafficUse}
use Rattle.tetra_settings.specs.declared.blocks.SlotBlocks.{SlotBlocks}
use Rattle.tetra_settings.specs.declared.readings.Field.{Field}
use Rattle.tetra_settings.specs.declared.readings.FieldName.{FieldName}
use Rattle.tetra_settings.specs.declared.readings.FieldName.TheVariants.{Whole, Single}
use Rattle.tetra_settings.specs.declared.readings.SlotReading.{SlotReading}
use Rattle.tetra_session.specs.Arrives.{HasField, HasFieldUpTo}
use Rattle.tetra_session.specs.Data.{IsKept, IsWhole, LastSlots, load_index, load_sent, DataRead, DataArrives}
use Rattle.tetra_session.specs.Heard.{allowed_in, letter_by, letter_heard, traffic_letter, second_stolen, word_heard, words_heard, block_heard, field_heard, place_values, fields_heard, slot_front, slot_reading}
use Rattle.tetra_session.specs.Readers.{field_reading, not_yet, read_field, read_front}
use Rattle.tetra_session.specs.Sent.{load_of, whole}
use Rattle.tetra_session.specs.Spots.{place, places_of, is_downlink, rest_spot}
use Rattle.tetra_session.specs.Time.{timeslot_mode, depth, counts, own}
use Rattle.tetra_session.specs.declared.front.FrontField.{FrontField}
use Rattle.tetra_session.specs.declared.spots.Place.{Place}
use Rattle.tetra_session.specs.declared.spots.Spot.{Spot}
use Rattle.tetra_session.specs.declared.spots.Spot.TheVariants.{WholeSlot}
use Rattle.tetra_session.specs.lemmas.Picked.{counts_here, own_more}
use Rattle.tetra_session.proofs.DataGathered.{no_blocks, gathered_none, heard_size, first_within, gathered_is, block_read, block_up_to}
use Rattle.tetra_session.proofs.DataModes.{DataLaws, Laws, IsSpread, spread_mode}
use Rattle.tetra_session.proofs.TrafficKept.{letter_in_traffic}

-- the field of the load, by the block that is complete
abbrev load_field : Settings → Mode → Option (List ℤ) → Field
load_field settings mode block = record { name = traffic_name mode Whole; reading = field_reading settings.rows.0 (traffic_name mode Whole) block }

-- the place of the load by the training sequence of its slot
abbrev load_by : Train → Mode → Bool → Place
load_by N mode stolen = place (traffic_name mode Whole) WholeSlot
load_by PTrain mode stolen = place (traffic_name mode Single) (rest_spot mode stolen)
load_by Y mode stolen = place (traffic_name mode Whole) WholeSlot

load_at : (dir : Dir) (train : Train) (mode : Mode) (stolen : Bool) (hear : Place → FrontField) (read : FrontField → Field) (other : Field)
    → get_or (map read (map hear (places_of dir (letter_by TrafficUse train) mode stolen))) (load_index dir (letter_by TrafficUse train)) other
    ≡ read (hear (load_by train mode stolen))
load_at Dl N mode stolen hear read other = refl
load_at Dl PTrain mode stolen hear read other = refl
load_at Dl Y mode stolen hear read other = refl
load_at Ul N mode stolen hear read other = refl
load_at Ul PTrain mode stolen hear read other = refl
load_at Ul Y mode stolen hear read other = refl

-- of protected data its field has the values of the block that is complete, wherever it stands
module _ (settings : Settings) (mode : Mode) (channel : Channel) (spread : IsSpread mode channel) (block : Option (List ℤ)) (soft : List ℤ) where
  abbrev read_at : Place → Field
  read_at at_place = read_field settings.rows.0 (field_heard settings.dir (key_of settings.colour) block soft at_place)

  named_load : (name : FieldName) (spot : Spot) → name ≡ traffic_name mode Whole → read_at (place name spot) ≡ load_field settings mode block
  unfolding read_field field_heard
  named_load name spot e =
      ap (λ n. read_at (place n spot)) e
      ∙ ap (λ b. load_field settings mode (cond b block (Some (place_values settings.dir (key_of settings.colour) soft (place (traffic_name mode Whole) spot))))) spread.spread

  load_read : (train : Train) (stolen : Bool) → read_at (load_by train mode stolen) ≡ load_field settings mode block
  load_read N stolen = named_load (traffic_name mode Whole) WholeSlot refl
  load_read PTrain stolen = named_load (traffic_name mode Single) (rest_spot mode stolen) spread.one_name
  load_read Y stolen = named_load (traffic_name mode Whole) WholeSlot refl

load_there : (settings : Settings) (received : List (List ℤ)) (soft : List ℤ) (mode : Mode) (channel : Channel) → IsSpread mode channel → (train : Train)
    → letter_heard settings (length received) soft ≡ letter_by TrafficUse train → mode_of settings (length received) ≡ mode → (other : Field)
    → get_or (slot_reading settings received soft).fields.items (load_index settings.dir (letter_by TrafficUse train)) other
    ≡ load_field settings mode (block_heard settings received soft)
unfolding slot_reading read_front slot_front fields_heard
load_there settings received soft mode channel spread train letter m other =
    let key : List Bool = key_of settings.colour in
    let block : Option (List ℤ) = block_heard settings received soft in
    let stolen : Bool = second_stolen settings.dir key soft in
    let hear : Place → FrontField = field_heard settings.dir key block soft in
    ap (λ l. get_or (map (read_field settings.rows.0) (map hear (places_of settings.dir l (mode_of settings (length received)) stolen))) (load_index settings.dir (letter_by TrafficUse train)) other) letter
    ∙ load_at settings.dir train (mode_of settings (length received)) stolen hear (read_field settings.rows.0) other
    ∙ ap (λ k. read_field settings.rows.0 (hear (load_by train k stolen))) m
    ∙ load_read settings mode channel spread block soft train stolen

-- the slots of a timeslot and one more
heard_more : (settings : Settings) (c : ℕ) (received : List (List ℤ)) (soft : List ℤ) → counts settings.at c (length received) ≡ true
    → words_heard settings c (received ++ soft ∷ []) ≡ words_heard settings c received ++ word_heard settings.dir (key_of settings.colour) (timeslot_mode settings c) soft ∷ []
heard_more settings c received soft h =
    let brought : List ℤ → List ℤ = word_heard settings.dir (key_of settings.colour) (timeslot_mode settings c) in
    ap (map brought) (own_more settings.at c received soft h) ∙ map-append brought (own settings.at c received) (soft ∷ [])

block_is : (settings : Settings) (c : ℕ) (received : List (List ℤ)) (soft : List ℤ) → timeslot_of settings.at (length received) ≡ c
    → mode_of settings (length received) ≡ timeslot_mode settings c → counts settings.at c (length received) ≡ true
    → block_heard settings received soft ≡ gathered (depth (timeslot_mode settings c)) (words_heard settings c (received ++ soft ∷ []))
unfolding block_heard
block_is settings c received soft e m h =
    let key : List Bool = key_of settings.colour in
    ap (λ k. gathered (depth k) (words_heard settings (timeslot_of settings.at (length received)) received ++ word_heard settings.dir key k soft ∷ [])) m
    ∙ ap (λ d. gathered (depth (timeslot_mode settings c)) (words_heard settings d received ++ word_heard settings.dir key (timeslot_mode settings c) soft ∷ [])) e
    ∙ ap (gathered (depth (timeslot_mode settings c))) (sym (heard_more settings c received soft h))

-- the field of the load, where the block is known
module _ (settings : Settings) (reading : SlotReading) (i : ℕ) (mode : Mode) (block : Option (List ℤ)) (found : Reading)
    (there : (other : Field) → get_or reading.fields.items i other ≡ load_field settings mode block)
    (e : field_reading settings.rows.0 (traffic_name mode Whole) block ≡ found) (free : found.metric ≡ 0) where
  load_has : HasField reading i (traffic_name mode Whole) found.mark found.bits
  load_has = record {
    field = load_field settings mode block;
    there = there;
    name_is = refl;
    mark_is = ap (λ r. r.mark) e;
    free = ap (λ r. r.metric) e ∙ free;
    bits_are = ap (λ r. r.bits) e;
  }

  load_has_up_to : (bits : List Bool) → IsUpTo bits found.bits → HasFieldUpTo reading i (traffic_name mode Whole) found.mark bits
  load_has_up_to bits up_to = record {
    field = load_field settings mode block;
    there = there;
    name_is = refl;
    mark_is = ap (λ r. r.mark) e;
    free = ap (λ r. r.metric) e ∙ free;
    up_to = subst (λ r. IsUpTo bits r.bits) (sym e) up_to;
  }

-- a channel without parity
good_none : (channel : Channel) → channel.parity ≡ Nothing → good_mark channel.parity ≡ Unchecked
unfolding good_mark
good_none channel e = rw e refl

mark_none : (channel : Channel) (values : List ℤ) → channel.parity ≡ Nothing → (coded_reading channel values).mark ≡ Unchecked
unfolding coded_reading mark_of mark_by
mark_none channel values e = rw e refl

message_none : (channel : Channel) (load : List Bool) → channel.parity ≡ Nothing → message_of channel load ≡ load
unfolding message_of with_parity parity_bits
message_none channel load e = rw e (append-nil load)

module _ (laws : Laws) (settings : Settings) (history : List SlotBlocks) (blocks : SlotBlocks) (received : List (List ℤ)) (soft : List ℤ)
    (same : length received ≡ length history) (c : ℕ) (here : timeslot_of settings.at (length history) ≡ c) (mode_is : mode_of settings (length history) ≡ timeslot_mode settings c)
    (carries : use_of settings (length history) ≡ TrafficUse)
    (channel : Channel) (spread : IsSpread (timeslot_mode settings c) channel) where
  abbrev all : List SlotBlocks
  all = history ++ blocks ∷ []

  abbrev heard : List (List ℤ)
  heard = received ++ soft ∷ []

  abbrev reading : SlotReading
  reading = slot_reading settings received soft

  abbrev depth_here : ℕ
  depth_here = depth (timeslot_mode settings c)

  abbrev name : FieldName
  name = traffic_name (timeslot_mode settings c) Whole

  abbrev letter : Letter
  letter = letter_heard settings (length history) soft

  abbrev index : ℕ
  index = load_index settings.dir letter

  abbrev block : Option (List ℤ)
  block = block_heard settings received soft

  long : length heard ≡ length all
  long = omega (arith, same, length_push received soft, length_push history blocks)

  block_now : block ≡ gathered depth_here (words_heard settings c heard)
  block_now =
      block_is settings c received soft (ap (timeslot_of settings.at) same ∙ here) (ap (mode_of settings) same ∙ mode_is)
      (ap (counts settings.at c) same ∙ counts_here settings c (length history) (sym here) carries)

  there : (other : Field) → get_or reading.fields.items index other ≡ load_field settings (timeslot_mode settings c) block
  unfolding traffic_letter
  there other =
      let train : Train = kind soft (is_downlink settings.dir) (allowed_in settings.dir TrafficUse) in
      let e : letter ≡ letter_by TrafficUse train = letter_in_traffic settings (length history) soft carries in
      ap (λ l. get_or reading.fields.items (load_index settings.dir l) other) e
      ∙ load_there settings received soft (timeslot_mode settings c) channel spread train (ap (λ t. letter_heard settings t soft) same ∙ e) (ap (mode_of settings) same ∙ mode_is) other

  words : length (words_heard settings c heard) ≡ length (own settings.at c all)
  words = heard_size laws settings c channel spread all heard long

  early : length (own settings.at c all) < depth_here → HasField reading index name NotYet (replicate (message_bits name) false)
  unfolding not_yet
  early few =
      let none : block ≡ None = block_now ∙ gathered_none depth_here (words_heard settings c heard) (omega (arith, few, words)) in
      load_has settings reading index (timeslot_mode settings c) block (not_yet name) there (ap (field_reading settings.rows.0 name) none) refl

  -- the block that is complete
  module _ (enough : depth_here ≤ length (own settings.at c all)) where
    abbrev load_complete : List Bool
    load_complete = load_sent settings c all no_blocks

    abbrev values_complete : List ℤ
    values_complete = numbered (gathered_value depth_here (words_heard settings c heard)) 432

    read_of : field_reading settings.rows.0 name block ≡ coded_reading channel values_complete
    read_of =
        ap (field_reading settings.rows.0 name) (block_now ∙ gathered_is laws settings c channel spread all heard long enough) ∙ spread.read settings.rows.0 values_complete

    load_is : (other : SlotBlocks) → load_complete ≡ load_sent settings c all other
    load_is other =
        let size : length (own settings.at c all) - depth_here < length (own settings.at c all) = first_within laws settings c channel spread all heard long enough in
        ap (λ b. load_of b.body) (get_or_default (own settings.at c all) (length (own settings.at c all) - depth_here) no_blocks other size)

    complete : LastSlots (IsKept settings all heard) settings c all → LastSlots (IsWhole all) settings c all → (other : SlotBlocks)
        → HasField reading index name Unchecked (load_sent settings c all other)
    unfolding written_reading
    complete kept whole other =
        let e : field_reading settings.rows.0 name block ≡ written_reading channel load_complete values_complete = read_of ∙ block_read laws settings c channel spread all heard long enough kept whole in
        let has = load_has settings reading index (timeslot_mode settings c) block (written_reading channel load_complete values_complete) there e refl in
        let mark = subst (λ m. HasField reading index name m (message_of channel load_complete)) (good_none channel spread.none) has in
        subst (λ bits. HasField reading index name Unchecked bits) (message_none channel load_complete spread.none ∙ load_is other) mark

    stolen : LastSlots (IsKept settings all heard) settings c all → (other : SlotBlocks) → HasFieldUpTo reading index name Unchecked (load_sent settings c all other)
    stolen kept other =
        let found = block_up_to laws settings c channel spread all heard long enough kept in
        let has = load_has_up_to settings reading index (timeslot_mode settings c) block (coded_reading channel values_complete) there read_of found.free (message_of channel load_complete) found.up_to in
        let mark = subst (λ m. HasFieldUpTo reading index name m (message_of channel load_complete)) (mark_none channel values_complete spread.none) has in
        subst (λ bits. HasFieldUpTo reading index name Unchecked bits) (message_none channel load_complete spread.none ∙ load_is other) mark

  data_read : DataRead settings c all heard letter name reading
  data_read = record { early = early; complete = complete; stolen = stolen }

pub data_arrives : DataLaws data48 → DataLaws data24 → UndamagedIsRead half → UndamagedArrives → NoneWrongArrives → FieldsArrive → KindArrives → DataArrives
unfolding mode_of
data_arrives of_48 of_24 half_read gathered_whole gathered_none_wrong fields kinds settings history blocks received soft same carries one =
    let laws : Laws = record {
      of_48 = of_48;
      of_24 = of_24;
      half_read = half_read;
      gathered_whole = gathered_whole;
      gathered_none_wrong = gathered_none_wrong;
      fields = fields;
      kinds = kinds;
    } in
    let spread = spread_mode laws (mode_of settings (length history)) one in
    data_read laws settings history blocks received soft same (timeslot_of settings.at (length history)) refl refl carries spread.0 spread.1
