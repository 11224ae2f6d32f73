-- Where the fields of a slot stand, and their values (EN 300 392-2 clause 9.4.4).
use Rattle.std.specs.Prelude.{◌≡◌, ℕ, ◌≤◌, Bool, true, false, List, [], ◌∷◌, ◌++◌, length, map, replicate, All, ℤ, pos, Some, None}
use Rattle.std.specs.declared.option.Option.{Option}
use Rattle.tetra_bursts.specs.Fields.{first_half, second_half, sync_field, aach_field, aach_sync, sub_first, sub_second}
use Rattle.tetra_settings.specs.Readings.{IsRow, sizes, traffic_name}
use Rattle.tetra_settings.specs.Slots.{byte_of}
use Rattle.tetra_settings.specs.declared.types.Dir.{Dir}
use Rattle.tetra_settings.specs.declared.types.Dir.TheVariants.{Dl, Ul}
use Rattle.tetra_settings.specs.declared.types.Mode.{Mode}
use Rattle.tetra_settings.specs.declared.types.Mode.TheVariants.{Sig, Cb, D72, D48, D24, Speech}
use Rattle.tetra_settings.specs.declared.slots.Letter.{Letter}
use Rattle.tetra_settings.specs.declared.slots.Letter.TheVariants.{F, H, S, T, P, Q, C}
use Rattle.tetra_settings.specs.declared.readings.FieldName.{FieldName}
use Rattle.tetra_settings.specs.declared.readings.FieldName.TheVariants.{Aach, Sync, Half, Hu, Full, Whole as WholeSpeech, Single}
use Rattle.tetra_session.specs.declared.spots.Spot.{Spot}
use Rattle.tetra_session.specs.declared.spots.Spot.TheVariants.{Access, SyncAccess, Sync as SyncSpot, FirstBlock, SecondBlock, WholeSlot, Rest, Nowhere, FirstSubslot, SecondSubslot}
use Rattle.tetra_session.specs.declared.spots.Place.{Place}

abbrev pub place : FieldName → Spot → Place
place what where_ = record { name = what; spot = where_ }

-- where data stands whose first half is stolen: in block 2, and nowhere where that is stolen too
abbrev pub data_rest : Bool → Spot
data_rest false = Rest
data_rest true = Nowhere

-- where the load of a slot stands whose first half is stolen
abbrev pub rest_spot : Mode → Bool → Spot
rest_spot Speech second_stolen = SecondBlock
rest_spot Sig second_stolen = SecondBlock
rest_spot Cb second_stolen = SecondBlock
rest_spot D72 second_stolen = data_rest second_stolen
rest_spot (D48 span) second_stolen = data_rest second_stolen
rest_spot (D24 span) second_stolen = data_rest second_stolen

-- the place of the load of a traffic slot. A slot is never read as Q
abbrev pub load_place : Letter → Mode → Bool → Option Place
load_place F mode second_stolen = None
load_place H mode second_stolen = None
load_place S mode second_stolen = None
load_place T mode second_stolen = Some (place (traffic_name mode WholeSpeech) WholeSlot)
load_place P mode second_stolen = Some (place (traffic_name mode Single) (rest_spot mode second_stolen))
load_place Q mode second_stolen = None
load_place C mode second_stolen = None

-- the places of the other fields of a letter, behind the access field
abbrev pub block_places : Letter → List Place
block_places F = place Full WholeSlot ∷ []
block_places H = place Half FirstBlock ∷ place Half SecondBlock ∷ []
block_places S = place Sync SyncSpot ∷ place Half SecondBlock ∷ []
block_places T = []
block_places P = place Half FirstBlock ∷ place Half SecondBlock ∷ []
block_places Q = []
block_places C = place Hu FirstSubslot ∷ place Hu SecondSubslot ∷ []

-- where the access field stands
abbrev pub access_spot : Letter → Spot
access_spot S = SyncAccess
access_spot F = Access
access_spot H = Access
access_spot T = Access
access_spot P = Access
access_spot Q = Access
access_spot C = Access

-- the downlink has one in front
abbrev pub places_before_load : Dir → Letter → List Place
places_before_load Dl letter = place Aach (access_spot letter) ∷ block_places letter
places_before_load Ul letter = block_places letter

-- the place of the load, where there is one, behind other places
abbrev pub with_load : List Place → Option Place → List Place
with_load places None = places
with_load places (Some load) = places ++ load ∷ []

-- the places of all fields of a slot; whether block 2 is stolen bears on the letter P alone
abbrev pub places_of : Dir → Letter → Mode → Bool → List Place
places_of dir letter mode second_stolen =
    with_load (places_before_load dir letter) (load_place letter mode second_stolen)

abbrev pub is_downlink : Dir → Bool
is_downlink Dl = true
is_downlink Ul = false

-- the received values at a spot, in the order of type-5 bits; where a half is stolen from data its values count 0
abbrev pub spot_values : Dir → Spot → List ℤ → List ℤ
spot_values dir Access soft = aach_field soft
spot_values dir SyncAccess soft = aach_sync soft
spot_values dir SyncSpot soft = sync_field soft
spot_values dir FirstBlock soft = first_half (is_downlink dir) soft
spot_values dir SecondBlock soft = second_half (is_downlink dir) soft
spot_values dir WholeSlot soft = first_half (is_downlink dir) soft ++ second_half (is_downlink dir) soft
spot_values dir Rest soft = replicate 216 (pos 0) ++ second_half (is_downlink dir) soft
spot_values dir Nowhere soft = replicate 432 (pos 0)
spot_values dir FirstSubslot soft = sub_first soft
spot_values dir SecondSubslot soft = sub_second soft

-- how many values stand there
abbrev pub spot_size : Spot → ℕ
spot_size Access = 30
spot_size SyncAccess = 30
spot_size SyncSpot = 120
spot_size FirstBlock = 216
spot_size SecondBlock = 216
spot_size WholeSlot = 432
spot_size Rest = 432
spot_size Nowhere = 432
spot_size FirstSubslot = 168
spot_size SecondSubslot = 168

-- a slot of the direction has the spot
abbrev pub HasSpot : Dir → Spot → Type 0
HasSpot dir Access = is_downlink dir ≡ true
HasSpot dir SyncAccess = is_downlink dir ≡ true
HasSpot dir SyncSpot = is_downlink dir ≡ true
HasSpot dir FirstBlock = Unit {0}
HasSpot dir SecondBlock = Unit {0}
HasSpot dir WholeSlot = Unit {0}
HasSpot dir Rest = Unit {0}
HasSpot dir Nowhere = Unit {0}
HasSpot dir FirstSubslot = is_downlink dir ≡ false
HasSpot dir SecondSubslot = is_downlink dir ≡ false

-- a slot of the direction has the spot of a place, with as many values as its field has
pub record FitsSpot (dir : Dir) (place : Place) : Type 0 where
  pub here : HasSpot dir place.spot
  pub size : spot_size place.spot ≡ (sizes place.name).values

-- places of a slot of a letter: the letter and the names are a row, and each place fits
pub record ArePlaces (dir : Dir) (letter : Letter) (places : List Place) : Type 0 where
  pub row : IsRow (byte_of letter) (map (λ place. place.name) places)
  pub fit : All (FitsSpot dir) places
  pub few : length places ≤ 4
