-- What the fields in front of the load tell of its place.
use Rattle.std.proofs.Common.{◌≡◌, ◌-◌, ◌≤◌, Bool, ℕ, List, ℤ, None, Some, length, map, get_or, pos, arith, refl, ap, ◌∙◌}
use Rattle.std.specs.Prelude.{IfSome, MatchOption, slice_get, false}
use Rattle.tetra_channels.specs.Channels.{half, type4_place, front_values}
use Rattle.tetra_channels.specs.Fields.{coded_reading}
use Rattle.tetra_interleave.specs.lemmas.Placed.{length-taken}
use Rattle.tetra_scramble.specs.Flips.{turned}
use Rattle.tetra_settings.specs.declared.types.Dir.{Dir}
use Rattle.tetra_settings.specs.declared.types.Dir.TheVariants.{Dl, Ul}
use Rattle.tetra_settings.specs.declared.types.Mode.{Mode}
use Rattle.tetra_settings.specs.declared.types.Settings.{Settings}
use Rattle.tetra_settings.specs.declared.slots.Letter.{Letter}
use Rattle.tetra_settings.specs.declared.slots.Letter.TheVariants.{F, H, S, T, P, Q, C}
use Rattle.tetra_settings.specs.declared.readings.Field.{Field}
use Rattle.tetra_settings.specs.declared.readings.FieldName.TheVariants.{Half}
use Rattle.tetra_session.specs.Begun.{IsLastGood}
use Rattle.tetra_session.specs.Heard.{place_values, second_stolen, is_good, field_heard, field_of_place}
use Rattle.tetra_session.specs.Readers.{read_field}
use Rattle.tetra_session.specs.Spots.{place, load_place, places_before_load, spot_values}
use Rattle.tetra_session.specs.declared.front.FrontField.{FrontField}
use Rattle.tetra_session.specs.declared.spots.Place.{Place}
use Rattle.tetra_session.specs.declared.spots.Spot.TheVariants.{SecondBlock}

-- whether block 2 is stolen bears on the letter P alone
pub load_same : (letter : Letter) (mode : Mode) (a b : Bool) → (letter ≡ P → a ≡ b) → load_place letter mode a ≡ load_place letter mode b
load_same F mode a b h = refl
load_same H mode a b h = refl
load_same S mode a b h = refl
load_same T mode a b h = refl
load_same P mode a b h = ap (load_place P mode) (h refl)
load_same Q mode a b h = refl
load_same C mode a b h = refl

-- there the last field in front of the load is block 2
module _ {Y : Type 0} (f : Place → Y) (fields : List Y) where
  second_in : (dir : Dir) (last : Y) → Some last ≡ slice_get fields (length fields - 1) → fields ≡ map f (places_before_load dir P) → last ≡ f (place Half SecondBlock)
  second_in Dl last h e =
      let last_is : Some last ≡ Some (f (place Half SecondBlock)) = h ∙ ap (λ l. slice_get l (length l - 1)) e in cc
  second_in Ul last h e =
      let last_is : Some last ≡ Some (f (place Half SecondBlock)) = h ∙ ap (λ l. slice_get l (length l - 1)) e in cc

  second_at : (dir : Dir) (other : Y) → fields ≡ map f (places_before_load dir P) → get_or fields (length fields - 1) other ≡ f (place Half SecondBlock)
  second_at Dl other e = ap (λ l. get_or l (length l - 1) other) e
  second_at Ul other e = ap (λ l. get_or l (length l - 1) other) e

  pub second_last : (dir : Dir) (letter : Letter) (last : Y) → Some last ≡ slice_get fields (length fields - 1) → fields ≡ map f (places_before_load dir letter)
      → letter ≡ P → last ≡ f (place Half SecondBlock)
  second_last dir letter last h e p = second_in dir last h (e ∙ ap (λ l. map f (places_before_load dir l)) p)

  some_there : (dir : Dir) → fields ≡ map f (places_before_load dir P) → 1 ≤ length fields
  some_there Dl e = omega (arith, ap length e)
  some_there Ul e = omega (arith, ap length e)

-- what is read of it, and its values, tell whether it is stolen
pub stolen_by_reading : (settings : Settings) (key : List Bool) (soft : List ℤ) (last : Field) → last ≡ field_of_place settings key None soft (place Half SecondBlock)
    → is_good last.reading.mark ≡ second_stolen settings.dir key soft
unfolding field_of_place field_heard read_field second_stolen
stolen_by_reading settings key soft last e = ap (λ (f : Field). is_good f.reading.mark) e

pub stolen_by_front : (dir : Dir) (key : List Bool) (soft : List ℤ) (last : FrontField) (good : Bool) → last ≡ field_heard dir key None soft (place Half SecondBlock)
    → MatchOption last.soft (good ≡ false) (λ values. good ≡ is_good (coded_reading half values).mark) → good ≡ second_stolen dir key soft
unfolding field_heard second_stolen
stolen_by_front dir key soft last good e h = rw e at h

-- as whoever reads the fields in front of the load finds it
pub stolen_by_last : (dir : Dir) (key : List Bool) (soft : List ℤ) (rows : List ℕ) (letter : Letter) (fields : List FrontField) (good : Bool)
    → fields ≡ map (field_heard dir key None soft) (places_before_load dir letter) → IsLastGood rows fields good → letter ≡ P
    → good ≡ second_stolen dir key soft
unfolding field_heard read_field second_stolen
stolen_by_last dir key soft rows letter fields good e last p =
    let heard = field_heard dir key None soft in
    let here : fields ≡ map heard (places_before_load dir P) = e ∙ ap (λ l. map heard (places_before_load dir l)) p in
    let half_place = place Half SecondBlock in
    last (some_there heard fields dir here) (heard half_place)
    ∙ ap (λ (field : FrontField). is_good (read_field rows field).reading.mark) (second_at heard fields dir (heard half_place) here)

-- it has 216 values
half_long : (dir : Dir) (key : List Bool) (soft : List ℤ) → length (place_values dir key soft (place Half SecondBlock)) ≡ 216
unfolding place_values front_values
half_long dir key soft = length-taken (pos 0) 216 (type4_place half) (turned (spot_values dir SecondBlock soft) key 1)

pub half_there : (dir : Dir) (key : List Bool) (soft : List ℤ) (letter : Letter) (fields : List FrontField) → fields ≡ map (field_heard dir key None soft) (places_before_load dir letter)
    → letter ≡ P → (other : FrontField) → IfSome (get_or fields (length fields - 1) other).soft (λ values. length values ≡ 216)
unfolding field_heard
half_there dir key soft letter fields e p other =
    let last : get_or fields (length fields - 1) other ≡ field_heard dir key None soft (place Half SecondBlock) =
    second_at (field_heard dir key None soft) fields dir other (e ∙ ap (λ l. map (field_heard dir key None soft) (places_before_load dir l)) p) in
    rw last (half_long dir key soft)
