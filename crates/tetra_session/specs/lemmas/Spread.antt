-- The values of the fields of a slot rest on a block of protected data only in traffic slots of protected data.
use Rattle.std.proofs.Common.{◌≡◌, ◌≢◌, ℕ, ◌≤◌, Bool, true, false, cond, List, [], ◌∷◌, ◌++◌, Option, None, Some, ℤ, map, arith, refl, sym, ap, lit≤, ◌∙◌}
use Rattle.std.specs.Prelude.{IfSome, IsTrue}
use Rattle.std.proofs.lemmas.List.{map-append}
use Rattle.std.proofs.lemmas.Simd.{map-map}
use Rattle.tetra_bursts.specs.Kind.{kind}
use Rattle.tetra_bursts.specs.declared.table.Train.{Train}
use Rattle.tetra_bursts.specs.declared.table.Train.TheVariants.{N, P as PTrain, Y}
use Rattle.tetra_settings.specs.Readings.{traffic_name}
use Rattle.tetra_settings.specs.Slots.{mode_of, use_of}
use Rattle.tetra_settings.specs.declared.types.Dir.{Dir}
use Rattle.tetra_settings.specs.declared.types.Dir.TheVariants.{Dl, Ul}
use Rattle.tetra_settings.specs.declared.types.Mode.{Mode}
use Rattle.tetra_settings.specs.declared.types.Mode.TheVariants.{Sig, Cb, D72, D48, D24, Speech}
use Rattle.tetra_settings.specs.declared.types.Span.{Span}
use Rattle.tetra_settings.specs.declared.types.Span.TheVariants.{One, Four, Eight}
use Rattle.tetra_settings.specs.declared.types.Settings.{Settings}
use Rattle.tetra_settings.specs.declared.slots.Letter.{Letter}
use Rattle.tetra_settings.specs.declared.slots.Letter.TheVariants.{F, H, S, T, P, Q, C}
use Rattle.tetra_settings.specs.declared.slots.SlotUse.{SlotUse}
use Rattle.tetra_settings.specs.declared.slots.SlotUse.TheVariants.{Signalling, Control, Traffic}
use Rattle.tetra_settings.specs.declared.readings.FieldName.{FieldName}
use Rattle.tetra_settings.specs.declared.readings.FieldName.TheVariants.{Whole, Single}
use Rattle.tetra_session.specs.Heard.{allowed_in, letter_by, letter_heard, kind_heard, traffic_letter, second_stolen, values_there, place_values, word_heard, values_of, field_heard, field_of_place, is_spread}
use Rattle.tetra_session.specs.Readers.{read_field}
use Rattle.tetra_session.specs.Spots.{place, rest_spot, load_place, places_before_load, places_of, with_load, is_downlink}
use Rattle.tetra_session.specs.Time.{depth, span_slots}
use Rattle.tetra_session.specs.declared.spots.Place.{Place}
use Rattle.tetra_session.specs.declared.spots.Spot.TheVariants.{WholeSlot}

span_some : (span : Span) → 1 ≤ span_slots span
span_some One = lit≤ tt
span_some Four = lit≤ tt
span_some Eight = lit≤ tt

-- a load is spread where its mode spreads it
name_spread : (mode : Mode) (speech : FieldName) → 1 ≤ depth mode → IsTrue (is_spread (traffic_name mode speech))
name_spread Sig speech deep = absurd (omega arith)
name_spread Cb speech deep = absurd (omega arith)
name_spread D72 speech deep = absurd (omega arith)
name_spread (D48 span) speech deep = refl
name_spread (D24 span) speech deep = refl
name_spread Speech speech deep = absurd (omega arith)

name_deep : (mode : Mode) (speech : FieldName) → is_spread speech ≡ false → is_spread (traffic_name mode speech) ≡ true → 1 ≤ depth mode
name_deep Sig speech once spread = absurd cc
name_deep Cb speech once spread = absurd cc
name_deep D72 speech once spread = absurd cc
name_deep (D48 span) speech once spread = span_some span
name_deep (D24 span) speech once spread = span_some span
name_deep Speech speech once spread = absurd cc

-- the field of a load has the name of its mode
load_name : (letter : Letter) (mode : Mode) (stolen : Bool) (load : Place) → Some load ≡ load_place letter mode stolen
    → (speech : FieldName) × (is_spread speech ≡ false) × (load.name ≡ traffic_name mode speech)
load_name F mode stolen load e = absurd cc
load_name H mode stolen load e = absurd cc
load_name S mode stolen load e = absurd cc
load_name T mode stolen load e = let p : load ≡ place (traffic_name mode Whole) WholeSlot = cc in (Whole, refl, ap (λ (q : Place). q.name) p)
load_name P mode stolen load e =
    let p : load ≡ place (traffic_name mode Single) (rest_spot mode stolen) = cc in (Single, refl, ap (λ (q : Place). q.name) p)
load_name Q mode stolen load e = absurd cc
load_name C mode stolen load e = absurd cc

pub load_spread : (letter : Letter) (mode : Mode) (stolen : Bool) (load : Place) → Some load ≡ load_place letter mode stolen → 1 ≤ depth mode
    → IsTrue (is_spread load.name)
load_spread letter mode stolen load e deep =
    let named = load_name letter mode stolen load e in
    rw named.2 (name_spread mode named.0 deep)

pub load_deep : (letter : Letter) (mode : Mode) (stolen : Bool) (load : Place) → Some load ≡ load_place letter mode stolen → is_spread load.name ≡ true
    → 1 ≤ depth mode
load_deep letter mode stolen load e spread =
    let named = load_name letter mode stolen load e in
    name_deep mode named.0 named.1 (ap is_spread (sym named.2) ∙ spread)

-- traffic slots have a load, and no others
loaded_by : (slot : SlotUse) (train : Train) (mode : Mode) (stolen : Bool) (load : Place) → Some load ≡ load_place (letter_by slot train) mode stolen
    → slot ≡ Traffic
loaded_by Signalling N mode stolen load e = absurd cc
loaded_by Signalling PTrain mode stolen load e = absurd cc
loaded_by Signalling Y mode stolen load e = absurd cc
loaded_by Control train mode stolen load e = absurd cc
loaded_by Traffic train mode stolen load e = refl

silent_by : (train : Train) (mode : Mode) (stolen : Bool) → None ≡ load_place (letter_by Traffic train) mode stolen → ⊥
silent_by N mode stolen e = cc
silent_by PTrain mode stolen e = cc
silent_by Y mode stolen e = cc

module _ (settings : Settings) (t : ℕ) (soft : List ℤ) (mode : Mode) where
  pub load_carries : (stolen : Bool) (load : Place) → Some load ≡ load_place (letter_heard settings t soft) mode stolen → use_of settings t ≡ Traffic
  unfolding letter_heard
  load_carries stolen load e = loaded_by (use_of settings t) (kind_heard settings t soft) mode stolen load e

  letter_is : use_of settings t ≡ Traffic → letter_heard settings t soft ≡ traffic_letter settings.dir soft
  unfolding letter_heard traffic_letter
  letter_is traffic = ap (λ u. letter_by u (kind soft (is_downlink settings.dir) (allowed_in settings.dir u))) traffic

  pub no_load_silent : (stolen : Bool) → None ≡ load_place (letter_heard settings t soft) mode stolen → use_of settings t ≢ Traffic
  unfolding traffic_letter
  no_load_silent stolen e = λ traffic.
      silent_by (kind soft (is_downlink settings.dir) (allowed_in settings.dir Traffic)) mode stolen
      (e ∙ ap (λ l. load_place l mode stolen) (letter_is traffic))

  -- the values of the load are what the slot brings to its timeslot
  pub load_is_word : (key : List Bool) (load : Place) → Some load ≡ load_place (letter_heard settings t soft) mode (second_stolen settings.dir key soft)
      → place_values settings.dir key soft load ≡ word_heard settings.dir key mode soft
  unfolding word_heard
  load_is_word key load e =
      let stolen = second_stolen settings.dir key soft in
      ap (values_there settings.dir key soft) (e ∙ ap (λ l. load_place l mode stolen) (letter_is (load_carries stolen load e)))

module _ (dir : Dir) (key : List Bool) (soft : List ℤ) (a b : Option (List ℤ)) where
  -- in front of the load nothing is spread
  pub before_same : (d : Dir) (letter : Letter)
      → map (field_heard dir key a soft) (places_before_load d letter) ≡ map (field_heard dir key b soft) (places_before_load d letter)
  unfolding field_heard
  before_same Dl F = refl
  before_same Dl H = refl
  before_same Dl S = refl
  before_same Dl T = refl
  before_same Dl P = refl
  before_same Dl Q = refl
  before_same Dl C = refl
  before_same Ul F = refl
  before_same Ul H = refl
  before_same Ul S = refl
  before_same Ul T = refl
  before_same Ul P = refl
  before_same Ul Q = refl
  before_same Ul C = refl

  values_same : (name : FieldName) (values : List ℤ) → (is_spread name ≡ true → a ≡ b) → values_of name a values ≡ values_of name b values
  values_same name values h =
      elim (is_spread name) as (λ s. (s ≡ true → a ≡ b) → cond s a (Some values) ≡ cond s b (Some values)) [
        | true ↦ λ k. k refl
        | false ↦ λ k. refl
      ] h

  load_same : (load : Place) → (is_spread load.name ≡ true → a ≡ b) → field_heard dir key a soft load ≡ field_heard dir key b soft load
  unfolding field_heard
  load_same load h = rw (values_same load.name (place_values dir key soft load) h) refl

  all_same : (d : Dir) (letter : Letter) (load : Option Place) → IfSome load (λ p. is_spread p.name ≡ true → a ≡ b)
      → map (field_heard dir key a soft) (with_load (places_before_load d letter) load) ≡ map (field_heard dir key b soft) (with_load (places_before_load d letter) load)
  all_same d letter None h = before_same d letter
  all_same d letter (Some load) h =
      map-append (field_heard dir key a soft) (places_before_load d letter) (load ∷ [])
      ∙ ap (λ l. l ++ field_heard dir key a soft load ∷ []) (before_same d letter)
      ∙ ap (λ f. map (field_heard dir key b soft) (places_before_load d letter) ++ f ∷ []) (load_same load h)
      ∙ sym (map-append (field_heard dir key b soft) (places_before_load d letter) (load ∷ []))

-- and nothing that is read there
pub before_read_same : (settings : Settings) (key : List Bool) (soft : List ℤ) (a b : Option (List ℤ)) (letter : Letter)
    → map (field_of_place settings key a soft) (places_before_load settings.dir letter) ≡ map (field_of_place settings key b soft) (places_before_load settings.dir letter)
unfolding field_of_place
before_read_same settings key soft a b letter =
    let places = places_before_load settings.dir letter in
    sym (map-map (read_field settings.rows.0) (field_heard settings.dir key a soft) places)
    ∙ ap (map (read_field settings.rows.0)) (before_same settings.dir key soft a b settings.dir letter)
    ∙ map-map (read_field settings.rows.0) (field_heard settings.dir key b soft) places

-- where there is a load
each_load : (Fact : Place → Type 0) (load : Option Place) → ((p : Place) → Some p ≡ load → Fact p) → IfSome load Fact
each_load Fact None h = tt
each_load Fact (Some p) h = h p refl

-- a block that is right in traffic slots of protected data gives the right fields in each slot
pub fields_same : (settings : Settings) (t : ℕ) (dir : Dir) (key : List Bool) (soft : List ℤ) (stolen : Bool) (block right : Option (List ℤ))
    → (use_of settings t ≡ Traffic → 1 ≤ depth (mode_of settings t) → block ≡ right)
    → map (field_heard dir key block soft) (places_of dir (letter_heard settings t soft) (mode_of settings t) stolen)
    ≡ map (field_heard dir key right soft) (places_of dir (letter_heard settings t soft) (mode_of settings t) stolen)
fields_same settings t dir key soft stolen block right h =
    let letter = letter_heard settings t soft in
    let mode = mode_of settings t in
    all_same dir key soft block right dir letter (load_place letter mode stolen)
    (each_load (λ p. is_spread p.name ≡ true → block ≡ right) (load_place letter mode stolen)
    (λ p e spread. h (load_carries settings t soft mode stolen p e) (load_deep letter mode stolen p e spread)))
