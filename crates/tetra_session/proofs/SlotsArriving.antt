-- What is read of undamaged slots.
use Rattle.std.proofs.Common.{ℕ, ℤ, ◌≡◌, ◌+◌, ◌<◌, inl, inr, Bool, true, false, List, ◌∷◌, ◌++◌, length, map, get_or, take, drop, Option, Some, None, IfSome, arith, refl, ap, sym, subst, ◌∙◌}
use Rattle.tetra_bits.specs.Digits.{digits}
use Rattle.tetra_bits.specs.Undamaged.{IsUndamaged}
use Rattle.tetra_bits.specs.declared.reading.Mark.TheVariants.{Good, Unchecked}
use Rattle.tetra_bursts.specs.Arrives.{FieldsArrive, KindArrives, KeepsControlUp}
use Rattle.tetra_bursts.specs.Bursts.{blocks_down, blocks_up, synchronisation}
use Rattle.tetra_bursts.specs.Kind.{kind}
use Rattle.tetra_bursts.specs.Fields.{first_half, second_half, sync_field, aach_field, aach_sync, sub_first, sub_second}
use Rattle.tetra_bursts.specs.declared.table.Train.{Train}
use Rattle.tetra_bursts.specs.declared.table.Train.TheVariants.{N, P as PTrain, Y}
use Rattle.tetra_channels.specs.Channels.{bsch, hu, half, full, message_of, type5_bits, raw_bits, access_bits}
use Rattle.tetra_channels.specs.Laws.{UndamagedIsRead, UndamagedRawIsRead, NoneWrongRawIsRead, UndamagedAccessIsRead}
use Rattle.tetra_parity.specs.Marks.{good_mark}
use Rattle.tetra_scramble.specs.Flips.{flipped, FlippedBack, StaysUndamaged}
use Rattle.tetra_scramble.specs.Key.{key_of, zero_key_bits}
use Rattle.tetra_settings.specs.Readings.{traffic_name}
use Rattle.tetra_settings.specs.Slots.{byte_of, timeslot_of, use_of, mode_of}
use Rattle.tetra_settings.specs.Blocks.{Fits, FitsAccess, letter_of}
use Rattle.tetra_settings.specs.declared.types.Dir.{Dir}
use Rattle.tetra_settings.specs.declared.types.Dir.TheVariants.{Dl, Ul}
use Rattle.tetra_settings.specs.declared.types.Mode.{Mode}
use Rattle.tetra_settings.specs.declared.types.Mode.TheVariants.{D72, Speech}
use Rattle.tetra_settings.specs.declared.types.Settings.{Settings}
use Rattle.tetra_settings.specs.declared.slots.Letter.{Letter}
use Rattle.tetra_settings.specs.declared.slots.Letter.TheVariants.{F, H, S, T, P, Q, C}
use Rattle.tetra_settings.specs.declared.slots.SlotUse.{SlotUse}
use Rattle.tetra_settings.specs.declared.slots.SlotUse.TheVariants.{Signalling, Control as ControlUse, Traffic as TrafficUse}
use Rattle.tetra_settings.specs.declared.blocks.Body.{Body}
use Rattle.tetra_settings.specs.declared.blocks.Body.TheVariants.{Full, Halves, Sync, Traffic, Stolen, Both, Control}
use Rattle.tetra_settings.specs.declared.blocks.SlotBlocks.{SlotBlocks}
use Rattle.tetra_settings.specs.declared.readings.Field.{Field}
use Rattle.tetra_settings.specs.declared.readings.FieldName.{FieldName}
use Rattle.tetra_settings.specs.declared.readings.FieldName.TheVariants.{Aach, Sync as SyncName, Half as HalfName, Hu as HuName, Full as FullName, D72 as D72Name, Whole as WholeName, Single as SingleName}
use Rattle.tetra_settings.specs.declared.readings.SlotReading.{SlotReading}
use Rattle.tetra_speech.specs.Laws.{UndamagedSpeechArrives, UndamagedSpeechIsRead}
use Rattle.tetra_speech.specs.Words.{half_message, half_type4}
use Rattle.tetra_session.specs.Readers.{read_field, read_front}
use Rattle.tetra_session.specs.Spots.{place, block_places, load_place, with_load, places_of, access_spot, is_downlink, data_rest, rest_spot, spot_values}
use Rattle.tetra_session.specs.Heard.{allowed_in, letter_by, letter_heard, second_stolen, field_heard, place_values, fields_heard, block_heard, slot_front, slot_reading}
use Rattle.tetra_session.specs.Sent.{KeepsSlot, KeepsSlotOf, access_of, load_word, rest_word, blocks_sent, burst_of, subslot_bits}
use Rattle.tetra_session.specs.declared.front.FrontField.{FrontField}
use Rattle.tetra_session.specs.declared.spots.Place.{Place}
use Rattle.tetra_session.specs.declared.spots.Spot.{Spot}
use Rattle.tetra_session.specs.declared.spots.Spot.TheVariants.{Access, SyncAccess, Sync as SyncSpot, FirstBlock, SecondBlock, WholeSlot, FirstSubslot, SecondSubslot}
use Rattle.tetra_session.specs.Arrives.{HasField, HasFieldUpTo, SubslotRead, BlocksRead, AccessRead, SlotRead, SlotsArrive, letter_read}
use Rattle.tetra_session.proofs.FieldsArriving.{Laws, coded_field, plain_field, up_to_field, speech_field, frame_field, frame_a, frame_b}
use Rattle.tetra_session.proofs.Fitting.{fits_full, fits_halves, fits_sync, fits_traffic, fits_stolen, fits_both, fits_control, access_there, access_none}
use Rattle.tetra_session.proofs.FittingData.{CarriesLoad, raw_mode, speech_mode}
use Rattle.tetra_session.proofs.TrafficKept.{TrafficKept, traffic_kept, n_may, p_may, letter_in_traffic, joined, rest_kept, stolen_there}
use Rattle.tetra_session.proofs.WordSizes.{coded_size, raw_size, access_size, first_size, second_size, load_size, rest_size}

-- how many access fields stand in front
abbrev access_count : Dir → ℕ
access_count Dl = 1
access_count Ul = 0

-- the field in front stays there whether or not there is a load behind
front_at : (hear : Place → FrontField) (read : FrontField → Field) (front : Place) (places : List Place) (load : Option Place) (other : Field)
    → get_or (map read (map hear (with_load (front ∷ places) load))) 0 other ≡ read (hear front)
front_at hear read front places None other = refl
front_at hear read front places (Some load) other = refl

-- the fields of a whole traffic slot, and of one whose first half is stolen
traffic_at : (dir : Dir) (hear : Place → FrontField) (read : FrontField → Field) (mode : Mode) (stolen : Bool) (other : Field)
    → get_or (map read (map hear (places_of dir T mode stolen))) (access_count dir) other ≡ read (hear (place (traffic_name mode WholeName) WholeSlot))
traffic_at Dl hear read mode stolen other = refl
traffic_at Ul hear read mode stolen other = refl

record StolenAt (dir : Dir) (hear : Place → FrontField) (read : FrontField → Field) (mode : Mode) (stolen : Bool) (fields : List Field) (other : Field) : Type 0 where
  half_1 : get_or fields (access_count dir) other ≡ read (hear (place HalfName FirstBlock))
  half_2 : get_or fields (access_count dir + 1) other ≡ read (hear (place HalfName SecondBlock))
  load : get_or fields (access_count dir + 2) other ≡ read (hear (place (traffic_name mode SingleName) (rest_spot mode stolen)))

stolen_at : (dir : Dir) (hear : Place → FrontField) (read : FrontField → Field) (mode : Mode) (stolen : Bool) (other : Field)
    → StolenAt dir hear read mode stolen (map read (map hear (places_of dir P mode stolen))) other
stolen_at Dl hear read mode stolen other = record { half_1 = refl; half_2 = refl; load = refl }
stolen_at Ul hear read mode stolen other = record { half_1 = refl; half_2 = refl; load = refl }

module _ (laws : Laws) (settings : Settings) (history : List SlotBlocks) (blocks : SlotBlocks) (earlier : List (List ℤ)) (received : List ℤ)
    (fits : Fits settings (length history) blocks) (same : length earlier ≡ length history) (kept : KeepsSlot settings history blocks received) where
  abbrev key : List Bool
  key = key_of settings.colour

  abbrev rows : List ℕ
  rows = settings.rows.0

  abbrev reading : SlotReading
  reading = slot_reading settings earlier received

  -- the block of protected data that is complete, and the blocks sent before
  abbrev complete : Option (List ℤ)
  complete = block_heard settings earlier received

  abbrev before : List (List Bool)
  before = blocks_sent settings (timeslot_of settings.at (length history)) history

  -- the field at a place, read
  abbrev field_at : Dir → FieldName → Spot → Field
  field_at dir name spot = read_field rows (field_heard dir key complete received (place name spot))

  abbrev fields_of : Dir → Letter → List Field
  fields_of dir letter = map (read_field rows) (map (field_heard dir key complete received) (places_of dir letter (mode_of settings (length earlier)) (second_stolen dir key received)))

  items : (dir : Dir) (letter : Letter) → settings.dir ≡ dir → letter_heard settings (length earlier) received ≡ letter → reading.fields.items ≡ fields_of dir letter
  unfolding slot_reading read_front slot_front fields_heard
  items dir letter d e = ap (λ l. fields_of settings.dir l) e ∙ ap (λ way. fields_of way letter) d

  lettered : (letter : Letter) → letter_heard settings (length earlier) received ≡ letter → reading.letter ≡ byte_of letter
  unfolding slot_reading read_front slot_front
  lettered letter e = ap byte_of e

  heard_as : (dir : Dir) (slot : SlotUse) (train : Train) → settings.dir ≡ dir → use_of settings (length history) ≡ slot
      → kind received (is_downlink dir) (allowed_in dir slot) ≡ train → letter_heard settings (length earlier) received ≡ letter_by slot train
  unfolding letter_heard
  heard_as dir slot train d u k = rw (same, u, d, k) refl

  -- what the received slot keeps, by what was sent
  kept_as : (dir : Dir) (aach : Option ℕ) (mode : Mode) (body : Body) → settings.dir ≡ dir → blocks.aach ≡ aach → mode_of settings (length history) ≡ mode → blocks.body ≡ body
      → KeepsSlotOf dir (access_of rows key aach) (burst_of key mode before body) received
  unfolding KeepsSlot
  kept_as dir aach mode body d a m e =
      subst (λ way. KeepsSlotOf way (access_of rows key aach) (burst_of key mode before body) received) d
      (subst (λ field. KeepsSlotOf settings.dir (access_of rows key field) (burst_of key mode before body) received) a
      (subst (λ here. KeepsSlotOf settings.dir (access_of rows key blocks.aach) (burst_of key here before body) received) m
      (subst (λ sent. KeepsSlotOf settings.dir (access_of rows key blocks.aach) (burst_of key (mode_of settings (length history)) before sent) received) e kept)))

  -- the access field of a letter that has a normal burst
  access_at : (letter : Letter) → access_spot letter ≡ Access → settings.dir ≡ Dl → letter_heard settings (length earlier) received ≡ letter → (other : Field)
      → get_or reading.fields.items 0 other ≡ field_at Dl Aach Access
  access_at letter spot d e other =
      ap (λ xs. get_or xs 0 other) (items Dl letter d e)
      ∙ front_at (field_heard Dl key complete received) (read_field rows) (place Aach (access_spot letter)) (block_places letter)
      (load_place letter (mode_of settings (length earlier)) (second_stolen Dl key received)) other
      ∙ ap (field_at Dl Aach) spot

  access_read : (letter : Letter) (message : ℕ) → access_spot letter ≡ Access → settings.dir ≡ Dl → letter_heard settings (length earlier) received ≡ letter → message < 16384
      → IsUndamaged (access_bits rows key message) (aach_field received) → HasField reading 0 Aach Unchecked (digits 14 message)
  unfolding read_field field_heard place_values
  access_read letter message spot d e small u =
      plain_field reading 0 Aach (field_at Dl Aach Access) (digits 14 message) (access_at letter spot d e) refl
      (laws.access_read rows key message (aach_field received) small u)

  sync_access_read : (message : ℕ) → settings.dir ≡ Dl → letter_heard settings (length earlier) received ≡ S → message < 16384
      → IsUndamaged (access_bits rows key message) (aach_sync received) → HasField reading 0 Aach Unchecked (digits 14 message)
  unfolding read_field field_heard place_values
  sync_access_read message d e small u =
      plain_field reading 0 Aach (field_at Dl Aach SyncAccess) (digits 14 message) (λ other. ap (λ xs. get_or xs 0 other) (items Dl S d e)) refl
      (laws.access_read rows key message (aach_sync received) small u)

  -- SCH/F
  full_down : (block : List Bool) → blocks.body ≡ Full block → settings.dir ≡ Dl → SlotRead blocks reading
  unfolding read_field field_heard place_values good_mark
  full_down block e d =
      let fit = fits_full settings (length history) blocks fits block e in
      let there = access_there settings.dir blocks.aach fits.access d in
      let sent = kept_as Dl (Some there.0) (mode_of settings (length history)) (Full block) d there.1 refl e in
      let word : List Bool = type5_bits full key block in
      let size : length word ≡ 432 = coded_size full key block in
      let access : List Bool = access_bits rows key there.0 in
      let parts = laws.fields.normal_down N (take 216 word) access (drop 216 word) received (first_size word size) (access_size rows key there.0) (second_size word size) sent in
      let kinds = laws.kinds.kind (blocks_down (take 216 word) access (drop 216 word)) true N (allowed_in Dl Signalling) received sent refl (λ y. refl) in
      let letter = heard_as Dl Signalling N d fit.0 kinds in
      record {
        letter = lettered F letter ∙ sym (ap (λ b. byte_of (letter_read (letter_of b))) e);
        fields = rw (e, there.1) (
          access_read F there.0 refl d letter there.2 parts.access,
          coded_field full laws.full_read key block (first_half true received ++ second_half true received) reading 1 FullName (field_at Dl FullName WholeSlot)
              (λ other. ap (λ xs. get_or xs 1 other) (items Dl F d letter)) refl refl (omega (arith, fit.1)) (joined word size _ _ parts.block_1 parts.block_2),
        );
      }

  full_up : (block : List Bool) → blocks.body ≡ Full block → settings.dir ≡ Ul → SlotRead blocks reading
  unfolding read_field field_heard place_values good_mark
  full_up block e d =
      let fit = fits_full settings (length history) blocks fits block e in
      let none = access_none settings.dir blocks.aach fits.access d in
      let sent = kept_as Ul None (mode_of settings (length history)) (Full block) d none refl e in
      let word : List Bool = type5_bits full key block in
      let size : length word ≡ 432 = coded_size full key block in
      let parts = laws.fields.normal_up N (take 216 word) (drop 216 word) received (first_size word size) (second_size word size) sent in
      let kinds = laws.kinds.kind (blocks_up (take 216 word) (drop 216 word)) false N (allowed_in Ul Signalling) received sent refl (λ y. absurd cc) in
      let letter = heard_as Ul Signalling N d fit.0 kinds in
      record {
        letter = lettered F letter ∙ sym (ap (λ b. byte_of (letter_read (letter_of b))) e);
        fields = rw (e, none)
            (coded_field full laws.full_read key block (first_half false received ++ second_half false received) reading 0 FullName (field_at Ul FullName WholeSlot)
            (λ other. ap (λ xs. get_or xs 0 other) (items Ul F d letter)) refl refl (omega (arith, fit.1)) (joined word size _ _ parts.block_1 parts.block_2));
      }

  -- two half slots
  halves : (first second : List Bool) → blocks.body ≡ Halves first second → SlotRead blocks reading
  unfolding read_field field_heard place_values good_mark
  halves first second e =
      let fit = fits_halves settings (length history) blocks fits first second e in
      let d = fit.1 in
      let there = access_there settings.dir blocks.aach fits.access d in
      let sent = kept_as Dl (Some there.0) (mode_of settings (length history)) (Halves first second) d there.1 refl e in
      let a : List Bool = type5_bits half key first in
      let b : List Bool = type5_bits half key second in
      let access : List Bool = access_bits rows key there.0 in
      let parts = laws.fields.normal_down PTrain a access b received (coded_size half key first) (access_size rows key there.0) (coded_size half key second) sent in
      let kinds = laws.kinds.kind (blocks_down a access b) true PTrain (allowed_in Dl Signalling) received sent refl (λ y. refl) in
      let letter = heard_as Dl Signalling PTrain d fit.0 kinds in
      record {
        letter = lettered H letter ∙ sym (ap (λ b. byte_of (letter_read (letter_of b))) e);
        fields = rw (e, there.1) (
          access_read H there.0 refl d letter there.2 parts.access,
          (
            coded_field half laws.half_read key first (first_half true received) reading 1 HalfName (field_at Dl HalfName FirstBlock)
                (λ other. ap (λ xs. get_or xs 1 other) (items Dl H d letter)) refl refl (omega (arith, fit.2)) parts.block_1,
            coded_field half laws.half_read key second (second_half true received) reading 2 HalfName (field_at Dl HalfName SecondBlock)
                (λ other. ap (λ xs. get_or xs 2 other) (items Dl H d letter)) refl refl (omega (arith, fit.3)) parts.block_2,
          ),
        );
      }

  -- a synchronisation burst
  synchronised : (sync second : List Bool) → blocks.body ≡ Sync sync second → SlotRead blocks reading
  unfolding read_field field_heard place_values good_mark
  synchronised sync second e =
      let fit = fits_sync settings (length history) blocks fits sync second e in
      let d = fit.1 in
      let there = access_there settings.dir blocks.aach fits.access d in
      let sent = kept_as Dl (Some there.0) (mode_of settings (length history)) (Sync sync second) d there.1 refl e in
      let a : List Bool = type5_bits bsch zero_key_bits sync in
      let b : List Bool = type5_bits half key second in
      let access : List Bool = access_bits rows key there.0 in
      let parts = laws.fields.sync_down a access b received (coded_size bsch zero_key_bits sync) (access_size rows key there.0) (coded_size half key second) sent in
      let kinds = laws.kinds.kind (synchronisation a access b) true Y (allowed_in Dl Signalling) received sent refl (λ y. refl) in
      let letter = heard_as Dl Signalling Y d fit.0 kinds in
      record {
        letter = lettered S letter ∙ sym (ap (λ b. byte_of (letter_read (letter_of b))) e);
        fields = rw (e, there.1) (
          sync_access_read there.0 d letter there.2 parts.access,
          (
            coded_field bsch laws.bsch_read zero_key_bits sync (sync_field received) reading 1 SyncName (field_at Dl SyncName SyncSpot)
                (λ other. ap (λ xs. get_or xs 1 other) (items Dl S d letter)) refl refl (omega (arith, fit.2)) parts.synchronisation,
            coded_field half laws.half_read key second (second_half true received) reading 2 HalfName (field_at Dl HalfName SecondBlock)
                (λ other. ap (λ xs. get_or xs 2 other) (items Dl S d letter)) refl refl (omega (arith, fit.3)) parts.block_2,
          ),
        );
      }

  -- a traffic slot: what it keeps, by its training sequence and its blocks
  abbrev mode : Mode
  mode = mode_of settings (length history)

  abbrev Kept : Train → List Bool → List Bool → Type 0
  Kept train first second = TrafficKept settings.dir rows key blocks.aach train first second received

  letter_kept : (train : Train) (first second : List Bool) → use_of settings (length history) ≡ TrafficUse → Kept train first second
      → letter_heard settings (length earlier) received ≡ letter_by TrafficUse train
  letter_kept train first second u parts = ap (λ t. letter_heard settings t received) same ∙ letter_in_traffic settings (length history) received u ∙ parts.letter

  -- the access field in front, where there is one
  behind_access : (dir : Dir) (letter : Letter) (aach : Option ℕ) (body : Body) → access_spot letter ≡ Access → settings.dir ≡ dir
      → letter_heard settings (length earlier) received ≡ letter → FitsAccess dir aach → IfSome aach (λ message. IsUndamaged (access_bits rows key message) (aach_field received))
      → BlocksRead body reading (access_count dir) → AccessRead aach body reading
  behind_access Dl letter (Some message) body spot d e fit u read = (access_read letter message spot d e fit u, read)
  behind_access Dl letter None body spot d e fit u read = absurd fit
  behind_access Ul letter None body spot d e fit u read = read
  behind_access Ul letter (Some message) body spot d e fit u read = absurd fit

  -- the slot, by the fields of its blocks
  traffic_read : (body : Body) (train : Train) (first second : List Bool) → blocks.body ≡ body → use_of settings (length history) ≡ TrafficUse → Kept train first second
      → letter_read (letter_of body) ≡ letter_by TrafficUse train → access_spot (letter_by TrafficUse train) ≡ Access → BlocksRead body reading (access_count settings.dir)
      → SlotRead blocks reading
  traffic_read body train first second e u parts as_ spot read =
      let letter = letter_kept train first second u parts in
      record {
        letter = lettered (letter_by TrafficUse train) letter ∙ sym (ap byte_of as_) ∙ sym (ap (λ b. byte_of (letter_read (letter_of b))) e);
        fields = subst (λ b. AccessRead blocks.aach b reading) (sym e)
            (behind_access settings.dir (letter_by TrafficUse train) blocks.aach body spot refl letter fits.access parts.access read);
      }

  -- the load, by its field
  whole_there : letter_heard settings (length earlier) received ≡ T → (m : Mode) → mode ≡ m → (other : Field)
      → get_or reading.fields.items (access_count settings.dir) other ≡ field_at settings.dir (traffic_name m WholeName) WholeSlot
  whole_there letter m at_mode other =
      ap (λ xs. get_or xs (access_count settings.dir) other) (items settings.dir T refl letter)
      ∙ traffic_at settings.dir (field_heard settings.dir key complete received) (read_field rows) (mode_of settings (length earlier)) (second_stolen settings.dir key received) other
      ∙ ap (λ k. field_at settings.dir (traffic_name k WholeName) WholeSlot) (ap (mode_of settings) same ∙ at_mode)

  whole_slot : (load : List Bool) → blocks.body ≡ Traffic load → SlotRead blocks reading
  unfolding read_field field_heard place_values
  whole_slot load e =
      let fit = fits_traffic settings (length history) blocks fits load e in
      let carries : CarriesLoad mode T load = (fit.1, fit.2) in
      let word : List Bool = load_word key mode before load in
      let size : length word ≡ 432 = load_size key mode T before load carries in
      let sent = kept_as settings.dir blocks.aach mode (Traffic load) refl refl refl e in
      let parts = traffic_kept laws.fields laws.kinds settings.dir rows key blocks.aach N (take 216 word) (drop 216 word) received fits.access (n_may settings.dir)
      (first_size word size) (second_size word size) sent in
      let letter = letter_kept N (take 216 word) (drop 216 word) fit.0 parts in
      let values : List ℤ = spot_values settings.dir WholeSlot received in
      let u : IsUndamaged word values = joined word size _ _ parts.block_1 parts.block_2 in
      traffic_read (Traffic load) N (take 216 word) (drop 216 word) e fit.0 parts refl refl (
        λ l.
            let raw : mode ≡ D72 = raw_mode mode T load carries l in
            plain_field reading (access_count settings.dir) D72Name (field_at settings.dir D72Name WholeSlot) load (whole_there letter D72 raw) refl
            (laws.raw_read key load values (subst (λ m. IsUndamaged (load_word key m before load) values) raw u)),
        λ l.
            let speech : mode ≡ Speech = speech_mode mode T load carries (inl l) in
            speech_field laws key (take 137 load) (take 137 (drop 137 load)) values reading (access_count settings.dir) (field_at settings.dir WholeName WholeSlot)
            (whole_there letter Speech speech) refl refl
            (frame_a load l) (frame_b load l) (subst (λ m. IsUndamaged (load_word key m before load) values) speech u),
      )

  -- a slot whose first half is stolen
  module _ (letter : letter_heard settings (length earlier) received ≡ P) where
    stolen_there_at : (other : Field)
        → StolenAt settings.dir (field_heard settings.dir key complete received) (read_field rows) (mode_of settings (length earlier)) (second_stolen settings.dir key received)
        reading.fields.items other
    stolen_there_at other =
        subst (λ xs. StolenAt settings.dir (field_heard settings.dir key complete received) (read_field rows) (mode_of settings (length earlier)) (second_stolen settings.dir key received) xs other)
        (sym (items settings.dir P refl letter))
        (stolen_at settings.dir (field_heard settings.dir key complete received) (read_field rows) (mode_of settings (length earlier)) (second_stolen settings.dir key received) other)

    half_1_read : (block : List Bool) → length block ≡ 124 → IsUndamaged (type5_bits half key block) (first_half (is_downlink settings.dir) received)
        → HasField reading (access_count settings.dir) HalfName Good (message_of half block)
    unfolding read_field field_heard place_values good_mark
    half_1_read block size u =
        coded_field half laws.half_read key block (first_half (is_downlink settings.dir) received) reading (access_count settings.dir) HalfName
        (field_at settings.dir HalfName FirstBlock) (λ other. (stolen_there_at other).half_1) refl refl (omega (arith, size)) u

    half_2_read : (block : List Bool) → length block ≡ 124 → IsUndamaged (type5_bits half key block) (second_half (is_downlink settings.dir) received)
        → HasField reading (access_count settings.dir + 1) HalfName Good (message_of half block)
    unfolding read_field field_heard place_values good_mark
    half_2_read block size u =
        coded_field half laws.half_read key block (second_half (is_downlink settings.dir) received) reading (access_count settings.dir + 1) HalfName
        (field_at settings.dir HalfName SecondBlock) (λ other. (stolen_there_at other).half_2) refl refl (omega (arith, size)) u

    rest_there : (m : Mode) → mode ≡ m → (other : Field) → get_or reading.fields.items (access_count settings.dir + 2) other
        ≡ field_at settings.dir (traffic_name m SingleName) (rest_spot m (second_stolen settings.dir key received))
    rest_there m at_mode other =
        (stolen_there_at other).load
        ∙ ap (λ k. field_at settings.dir (traffic_name k SingleName) (rest_spot k (second_stolen settings.dir key received))) (ap (mode_of settings) same ∙ at_mode)

    raw_rest : (load : List Bool) → mode ≡ D72 → length load ≡ 432
        → (second_stolen settings.dir key received ≡ false → IsUndamaged (drop 216 (raw_bits key load)) (second_half (is_downlink settings.dir) received))
        → HasFieldUpTo reading (access_count settings.dir + 2) D72Name Unchecked load
    unfolding read_field field_heard place_values
    raw_rest load raw size second =
        let stolen : Bool = second_stolen settings.dir key received in
        up_to_field reading (access_count settings.dir + 2) (field_at settings.dir D72Name (data_rest stolen)) key load (spot_values settings.dir (data_rest stolen) received) laws.raw_up_to
        (rest_there D72 raw) refl refl
        (rest_kept (raw_bits key load) (raw_size key load ∙ size) settings.dir received stolen second)

    frame_rest : (load : List Bool) → mode ≡ Speech → length load ≡ 137 → IsUndamaged (flipped (half_type4 load) key 1) (second_half (is_downlink settings.dir) received)
        → HasField reading (access_count settings.dir + 2) SingleName Good (half_message load)
    unfolding read_field field_heard place_values
    frame_rest load speech size u =
        frame_field laws key load (second_half (is_downlink settings.dir) received) reading (access_count settings.dir + 2) (field_at settings.dir SingleName SecondBlock)
        (rest_there Speech speech) refl refl size u

  first_stolen : (first load : List Bool) → blocks.body ≡ Stolen first load → SlotRead blocks reading
  first_stolen first load e =
      let fit = fits_stolen settings (length history) blocks fits first load e in
      let carries : CarriesLoad mode P load = (fit.1, fit.3) in
      let a : List Bool = type5_bits half key first in
      let b : List Bool = rest_word key mode before load in
      let sent = kept_as settings.dir blocks.aach mode (Stolen first load) refl refl refl e in
      let parts = traffic_kept laws.fields laws.kinds settings.dir rows key blocks.aach PTrain a b received fits.access (p_may settings.dir)
      (coded_size half key first) (rest_size key mode P before load carries) sent in
      let letter = letter_kept PTrain a b fit.0 parts in
      let second : List ℤ = second_half (is_downlink settings.dir) received in
      traffic_read (Stolen first load) PTrain a b e fit.0 parts refl refl (
        half_1_read letter first fit.2 parts.block_1,
        λ l.
            let raw : mode ≡ D72 = raw_mode mode P load carries l in
            raw_rest letter load raw l (λ whole. subst (λ m. IsUndamaged (rest_word key m before load) second) raw parts.block_2),
        λ l.
            let speech : mode ≡ Speech = speech_mode mode P load carries (inr l) in
            frame_rest letter load speech l (subst (λ m. IsUndamaged (rest_word key m before load) second) speech parts.block_2),
      )

  -- a slot both halves of which are stolen
  both_stolen : (first second load : List Bool) → blocks.body ≡ Both first second load → SlotRead blocks reading
  both_stolen first second load e =
      let fit = fits_both settings (length history) blocks fits first second load e in
      let carries : CarriesLoad mode Q load = (fit.1, fit.4) in
      let a : List Bool = type5_bits half key first in
      let b : List Bool = type5_bits half key second in
      let sent = kept_as settings.dir blocks.aach mode (Both first second load) refl refl refl e in
      let parts = traffic_kept laws.fields laws.kinds settings.dir rows key blocks.aach PTrain a b received fits.access (p_may settings.dir)
      (coded_size half key first) (coded_size half key second) sent in
      let letter = letter_kept PTrain a b fit.0 parts in
      let stolen = stolen_there laws.half_read settings.dir key second received fit.3 parts.block_2 in
      traffic_read (Both first second load) PTrain a b e fit.0 parts refl refl (
        half_1_read letter first fit.2 parts.block_1,
        half_2_read letter second fit.3 parts.block_2,
        λ l. raw_rest letter load (raw_mode mode Q load carries l) l (λ whole. absurd (let clash : true ≡ false = sym stolen ∙ whole in cc)),
      )

  -- control bursts
  module _ (d : settings.dir ≡ Ul) (letter : letter_heard settings (length earlier) received ≡ C) where
    first_sub : (first second : Option (List Bool)) → IfSome first (λ bits. length bits ≡ 92) → KeepsControlUp (subslot_bits key first) (subslot_bits key second) received → SubslotRead first reading 0
    unfolding read_field field_heard place_values good_mark
    first_sub None second size sent = tt
    first_sub (Some block) second size sent =
        coded_field hu laws.hu_read key block (sub_first received) reading 0 HuName (field_at Ul HuName FirstSubslot)
        (λ other. ap (λ xs. get_or xs 0 other) (items Ul C d letter)) refl refl (omega (arith, size))
        (laws.fields.first_sub (type5_bits hu key block) (subslot_bits key second) received (coded_size hu key block) sent)

    second_sub : (first second : Option (List Bool)) → IfSome second (λ bits. length bits ≡ 92) → KeepsControlUp (subslot_bits key first) (subslot_bits key second) received → SubslotRead second reading 1
    unfolding read_field field_heard place_values good_mark
    second_sub first None size sent = tt
    second_sub first (Some block) size sent =
        coded_field hu laws.hu_read key block (sub_second received) reading 1 HuName (field_at Ul HuName SecondSubslot)
        (λ other. ap (λ xs. get_or xs 1 other) (items Ul C d letter)) refl refl (omega (arith, size))
        (laws.fields.second_sub (subslot_bits key first) (type5_bits hu key block) received (coded_size hu key block) sent)

  controlled : (first second : Option (List Bool)) → blocks.body ≡ Control first second → SlotRead blocks reading
  controlled first second e =
      let fit = fits_control settings (length history) blocks fits first second e in
      let d = fit.1 in
      let none = access_none settings.dir blocks.aach fits.access d in
      let sent = kept_as Ul None (mode_of settings (length history)) (Control first second) d none refl e in
      let letter = heard_as Ul ControlUse (kind received false (allowed_in Ul ControlUse)) d fit.0 refl in
      record {
        letter = lettered C letter ∙ sym (ap (λ b. byte_of (letter_read (letter_of b))) e);
        fields = rw (e, none) (first_sub d letter first second fit.2 sent, second_sub d letter first second fit.3 sent);
      }

  by_body : (body : Body) → blocks.body ≡ body → (dir : Dir) → settings.dir ≡ dir → SlotRead blocks reading
  by_body (Full block) e Dl d = full_down block e d
  by_body (Full block) e Ul d = full_up block e d
  by_body (Halves first second) e dir d = halves first second e
  by_body (Sync sync second) e dir d = synchronised sync second e
  by_body (Traffic load) e dir d = whole_slot load e
  by_body (Stolen first load) e dir d = first_stolen first load e
  by_body (Both first second load) e dir d = both_stolen first second load e
  by_body (Control first second) e dir d = controlled first second e

pub slots_arrive : UndamagedIsRead bsch → UndamagedIsRead hu → UndamagedIsRead half → UndamagedIsRead full → UndamagedRawIsRead → NoneWrongRawIsRead → UndamagedAccessIsRead
    → FieldsArrive → KindArrives → FlippedBack → StaysUndamaged → UndamagedSpeechArrives → UndamagedSpeechIsRead → SlotsArrive
slots_arrive bsch_read hu_read half_read full_read raw_read raw_up_to access_read fields kinds back stays speech_arrives speech_read settings history blocks earlier received fits same kept =
    by_body (record {
      bsch_read = bsch_read;
      hu_read = hu_read;
      half_read = half_read;
      full_read = full_read;
      raw_read = raw_read;
      raw_up_to = raw_up_to;
      access_read = access_read;
      fields = fields;
      kinds = kinds;
      back = back;
      stays = stays;
      speech_arrives = speech_arrives;
      speech_read = speech_read;
    })
    settings history blocks earlier received fits same kept blocks.body refl settings.dir refl
