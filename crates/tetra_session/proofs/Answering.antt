-- What a receiver answers by what it keeps.
use Rattle.std.proofs.Common.{ℕ, ℤ, ◌≡◌, ◌≤◌, List, Option, length, map, Bool, All, refl, sym, ap, ◌∙◌}
use Rattle.std.specs.Prelude.{IfSome}
use Rattle.std.proofs.lemmas.List.Elements.{All-map, All-weaker}
use Rattle.std.proofs.lemmas.Simd.{map-map}
use Rattle.arrayvec.specs.ArrayVec.{ArrayVec}
use Rattle.tetra_bits.specs.Soft.{AllWithin}
use Rattle.tetra_bursts.specs.Fields.{FieldsHaveSizes}
use Rattle.tetra_scramble.specs.Key.{key_of}
use Rattle.tetra_settings.specs.Readings.{IsField, IsWellFormed}
use Rattle.tetra_settings.specs.Slots.{byte_of, mode_of, use_of}
use Rattle.tetra_settings.specs.declared.types.Dir.{Dir}
use Rattle.tetra_settings.specs.declared.types.Settings.{Settings}
use Rattle.tetra_settings.specs.declared.slots.Letter.{Letter}
use Rattle.tetra_settings.specs.declared.slots.SlotUse.TheVariants.{Traffic}
use Rattle.tetra_settings.specs.declared.readings.Field.{Field}
use Rattle.tetra_settings.specs.declared.readings.SlotReading.{SlotReading}
use Rattle.tetra_session.specs.Fronts.{IsFrontField, IsFront, IsBounded}
use Rattle.tetra_session.specs.Heard.{letter_heard, second_stolen, place_values, values_of, block_heard, field_heard, field_of_place, fields_heard, slot_front, slot_reading}
use Rattle.tetra_session.specs.Readers.{read_field, read_front}
use Rattle.tetra_session.specs.Spots.{places_of, FitsSpot, ArePlaces}
use Rattle.tetra_session.specs.Time.{depth}
use Rattle.tetra_session.specs.declared.front.FrontField.{FrontField}
use Rattle.tetra_session.specs.declared.front.Front.{Front}
use Rattle.tetra_session.specs.declared.spots.Place.{Place}
use Rattle.tetra_session.specs.lemmas.Fields.{reading_formed_of, reading_bounded_of}
use Rattle.tetra_session.specs.lemmas.Spread.{fields_same}
use Rattle.tetra_session.specs.lemmas.Values.{place_size, place_within, values_size, values_within, block_size, block_within}

abbrev pub front_made : ℕ → ArrayVec FrontField → Front
front_made byte fields = record { letter = byte; fields = fields }

abbrev pub reading_made : ℕ → ArrayVec Field → SlotReading
reading_made byte fields = record { letter = byte; fields = fields }

-- the names of fields that are made of places
module _ (law : FieldsHaveSizes) (dir : Dir) (key : List Bool) (block : Option (List ℤ)) (soft : List ℤ) (size : length soft ≡ 510)
    (whole : IfSome block (λ values. length values ≡ 432)) where
  heard_formed : (place : Place) → FitsSpot dir place → IsFrontField (field_heard dir key block soft place)
  unfolding field_heard
  heard_formed place fit = record { soft = values_size place.name block (place_values dir key soft place) whole (place_size law dir key soft place fit size) }

  heard_names : (places : List Place) → map (λ field. field.name) (map (field_heard dir key block soft) places) ≡ map (λ place. place.name) places
  unfolding field_heard
  heard_names places = map-map (λ field. field.name) (field_heard dir key block soft) places

  pub fields_formed : (places : List Place) → All (FitsSpot dir) places → All IsFrontField (map (field_heard dir key block soft) places)
  fields_formed places fit =
      All-map IsFrontField (field_heard dir key block soft) places
      (All-weaker (FitsSpot dir) (λ place. IsFrontField (field_heard dir key block soft place)) heard_formed places fit)

  pub front_formed : (letter : Letter) (byte : ℕ) (places : List Place) (fields : ArrayVec FrontField) → ArePlaces dir letter places
      → byte ≡ byte_of letter → fields.items ≡ map (field_heard dir key block soft) places → IsFront (front_made byte fields)
  front_formed letter byte places fields are e f = record {
    row = rw (e, f, heard_names places) are.row;
    fields = rw f (fields_formed places are.fit);
  }

module _ (law : FieldsHaveSizes) (settings : Settings) (key : List Bool) (block : Option (List ℤ)) (soft : List ℤ) (size : length soft ≡ 510)
    (whole : IfSome block (λ values. length values ≡ 432)) where
  read_formed : (place : Place) → FitsSpot settings.dir place → IsField (field_of_place settings key block soft place)
  unfolding field_of_place field_heard read_field
  read_formed place fit =
      reading_formed_of place.name settings.rows.0 (values_of place.name block (place_values settings.dir key soft place))
      (values_size place.name block (place_values settings.dir key soft place) whole (place_size law settings.dir key soft place fit size))

  read_bounded : (top : ℕ) → IfSome block (AllWithin top) → AllWithin top soft → (place : Place) → FitsSpot settings.dir place
      → IsBounded top (field_of_place settings key block soft place)
  unfolding field_of_place field_heard read_field
  read_bounded top of_block of_soft place fit =
      reading_bounded_of top place.name settings.rows.0 (values_of place.name block (place_values settings.dir key soft place))
      (values_size place.name block (place_values settings.dir key soft place) whole (place_size law settings.dir key soft place fit size))
      (values_within top place.name block (place_values settings.dir key soft place) of_block (place_within top settings.dir key soft place of_soft))

  read_names : (places : List Place) → map (λ field. field.name) (map (field_of_place settings key block soft) places) ≡ map (λ place. place.name) places
  unfolding field_of_place field_heard read_field
  read_names places = map-map (λ field. field.name) (field_of_place settings key block soft) places

  pub reading_formed : (letter : Letter) (byte : ℕ) (places : List Place) (fields : ArrayVec Field) → ArePlaces settings.dir letter places
      → byte ≡ byte_of letter → fields.items ≡ map (field_of_place settings key block soft) places → IsWellFormed (reading_made byte fields)
  reading_formed letter byte places fields are e f = record {
    row = rw (e, f, read_names places) are.row;
    fields = rw f (All-map IsField (field_of_place settings key block soft) places (All-weaker (FitsSpot settings.dir) (λ place. IsField (field_of_place settings key block soft place)) read_formed places are.fit));
  }

  pub all_bounded : (top : ℕ) → IfSome block (AllWithin top) → AllWithin top soft → (places : List Place) → All (FitsSpot settings.dir) places
      → All (IsBounded top) (map (field_of_place settings key block soft) places)
  all_bounded top of_block of_soft places fit =
      All-map (IsBounded top) (field_of_place settings key block soft) places (All-weaker (FitsSpot settings.dir) (λ place. IsBounded top (field_of_place settings key block soft place)) (read_bounded top of_block of_soft) places fit)

module _ (settings : Settings) (history : List (List ℤ)) (soft : List ℤ) (turn byte : ℕ) (letter : Letter) (key : List Bool)
    (block : Option (List ℤ)) (places : List Place) (turns : turn ≡ length history) (keyed : key ≡ key_of settings.colour)
    (lettered : letter ≡ letter_heard settings turn soft) (bytes : byte ≡ byte_of letter)
    (placed : places ≡ places_of settings.dir letter (mode_of settings turn) (second_stolen settings.dir key soft))
    (blocked : use_of settings (length history) ≡ Traffic → 1 ≤ depth (mode_of settings (length history)) → block ≡ block_heard settings history soft) where
  letter_is : letter ≡ letter_heard settings (length history) soft
  letter_is = lettered ∙ ap (λ t. letter_heard settings t soft) turns

  byte_is : byte ≡ byte_of (letter_heard settings (length history) soft)
  byte_is = bytes ∙ ap byte_of letter_is

  abbrev all : List Place
  all =
      places_of settings.dir (letter_heard settings (length history) soft) (mode_of settings (length history))
      (second_stolen settings.dir (key_of settings.colour) soft)

  places_are : places ≡ all
  places_are =
      placed ∙ ap (λ k. places_of settings.dir letter (mode_of settings turn) (second_stolen settings.dir k soft)) keyed
      ∙ ap (λ l. places_of settings.dir l (mode_of settings turn) (second_stolen settings.dir (key_of settings.colour) soft)) letter_is
      ∙ ap (λ t. places_of settings.dir (letter_heard settings (length history) soft) (mode_of settings t) (second_stolen settings.dir (key_of settings.colour) soft)) turns

  block_gives : map (field_heard settings.dir (key_of settings.colour) block soft) all ≡ map (field_heard settings.dir (key_of settings.colour) (block_heard settings history soft) soft) all
  block_gives = fields_same settings (length history) settings.dir (key_of settings.colour) soft (second_stolen settings.dir (key_of settings.colour) soft) block (block_heard settings history soft) blocked

  pub front_is : (fields : ArrayVec FrontField) → fields.items ≡ map (field_heard settings.dir key block soft) places → front_made byte fields ≡ slot_front settings history soft
  unfolding slot_front fields_heard
  front_is fields e =
      let items : fields.items ≡ map (field_heard settings.dir (key_of settings.colour) (block_heard settings history soft) soft) all =
      e ∙ ap (λ p. map (field_heard settings.dir key block soft) p) places_are
      ∙ ap (λ k. map (field_heard settings.dir k block soft) all) keyed
      ∙ block_gives in
      rw (byte_is, ← items) refl

  -- the fields of the reading
  fields_are : (fields : List Field) → fields ≡ map (field_of_place settings key block soft) places
      → fields ≡ map (field_of_place settings (key_of settings.colour) (block_heard settings history soft) soft) all
  unfolding field_of_place
  fields_are fields e =
      e ∙ ap (λ p. map (field_of_place settings key block soft) p) places_are
      ∙ ap (λ k. map (field_of_place settings k block soft) all) keyed
      ∙ sym (map-map (read_field settings.rows.0) (field_heard settings.dir (key_of settings.colour) block soft) all)
      ∙ ap (map (read_field settings.rows.0)) block_gives
      ∙ map-map (read_field settings.rows.0) (field_heard settings.dir (key_of settings.colour) (block_heard settings history soft) soft) all

  pub reading_is : (fields : ArrayVec Field) → fields.items ≡ map (field_of_place settings key block soft) places → reading_made byte fields ≡ slot_reading settings history soft
  unfolding slot_reading slot_front fields_heard read_front field_of_place
  reading_is fields e =
      let items : fields.items ≡ map (read_field settings.rows.0) (map (field_heard settings.dir (key_of settings.colour) (block_heard settings history soft) soft) all) =
      fields_are fields.items e
      ∙ sym (map-map (read_field settings.rows.0) (field_heard settings.dir (key_of settings.colour) (block_heard settings history soft) soft) all) in
      rw (byte_is, ← items) refl

  pub reading_bounded : FieldsHaveSizes → length soft ≡ 510 → (fields : List Field) → ArePlaces settings.dir letter places → fields ≡ map (field_of_place settings key block soft) places
      → (top : ℕ) → All (AllWithin top) history → AllWithin top soft → All (IsBounded top) fields
  reading_bounded law size fields are e top earlier last =
      let fit : All (FitsSpot settings.dir) all = rw (← places_are) are.fit in
      rw (fields_are fields e)
      (all_bounded law settings (key_of settings.colour) (block_heard settings history soft) soft size (block_size settings history soft) top
      (block_within top settings history soft earlier last) last all fit)
