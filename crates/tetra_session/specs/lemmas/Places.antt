-- The places of the fields of a slot.
use Rattle.std.proofs.Common.{◌≡◌, ℕ, ◌-◌, inl, inr, Bool, true, false, if◌then◌else◌, nat_eq, List, [], ◌∷◌, ◌++◌, Option, None, Some, ℤ, All, arith, refl, sym}
use Rattle.std.specs.Prelude.{IfSome}
use Rattle.std.specs.Option.{option_to_list}
use Rattle.std.proofs.lemmas.List.{append-nil}
use Rattle.std.proofs.lemmas.List.Elements.{All-nil, All-cons, All-pop}
use Rattle.tetra_bursts.specs.Kind.{kind}
use Rattle.tetra_bursts.specs.declared.table.Train.{Train}
use Rattle.tetra_bursts.specs.declared.table.Train.TheVariants.{N, P as PTrain, Y}
use Rattle.tetra_settings.specs.Slots.{timeslot_of, frame_of, mode_of, use_of, use_in}
use Rattle.tetra_settings.specs.Blocks.{IsTrafficMode}
use Rattle.tetra_settings.specs.Readings.{traffic_name}
use Rattle.tetra_settings.specs.Validity.{HasMode, IsValid}
use Rattle.tetra_settings.specs.declared.types.Dir.{Dir}
use Rattle.tetra_settings.specs.declared.types.Dir.TheVariants.{Dl, Ul}
use Rattle.tetra_settings.specs.declared.types.Mode.{Mode}
use Rattle.tetra_settings.specs.declared.types.Mode.TheVariants.{Sig, Cb, D72, D48, D24, Speech}
use Rattle.tetra_settings.specs.declared.types.Settings.{Settings}
use Rattle.tetra_settings.specs.declared.slots.Letter.{Letter}
use Rattle.tetra_settings.specs.declared.slots.Letter.TheVariants.{F, H, S, T, P, C}
use Rattle.tetra_settings.specs.declared.slots.SlotUse.{SlotUse}
use Rattle.tetra_settings.specs.declared.slots.SlotUse.TheVariants.{Signalling, Traffic}
use Rattle.tetra_settings.specs.declared.readings.FieldName.TheVariants.{Aach, Sync, Half, Hu, Full, Whole, Single}
use Rattle.tetra_session.specs.Heard.{allowed_in, letter_by, letter_heard}
use Rattle.tetra_session.specs.Spots.{place, rest_spot, load_place, places_before_load, places_of, with_load, is_downlink, FitsSpot, ArePlaces}
use Rattle.tetra_session.specs.declared.spots.Place.{Place}
use Rattle.tetra_session.specs.declared.spots.Spot.TheVariants.{Access, SyncAccess, Sync as SyncSpot, FirstBlock, SecondBlock, WholeSlot, FirstSubslot, SecondSubslot}

-- lists of one to four places that fit
one : (dir : Dir) (a : Place) → FitsSpot dir a → All (FitsSpot dir) (a ∷ [])
one dir a fa = All-cons (FitsSpot dir) a [] fa (All-nil (FitsSpot dir))

two : (dir : Dir) (a b : Place) → FitsSpot dir a → FitsSpot dir b → All (FitsSpot dir) (a ∷ b ∷ [])
two dir a b fa fb = All-cons (FitsSpot dir) a (b ∷ []) fa (one dir b fb)

three : (dir : Dir) (a b c : Place) → FitsSpot dir a → FitsSpot dir b → FitsSpot dir c → All (FitsSpot dir) (a ∷ b ∷ c ∷ [])
three dir a b c fa fb fc = All-cons (FitsSpot dir) a (b ∷ c ∷ []) fa (two dir b c fb fc)

four : (dir : Dir) (a b c d : Place) → FitsSpot dir a → FitsSpot dir b → FitsSpot dir c → FitsSpot dir d → All (FitsSpot dir) (a ∷ b ∷ c ∷ d ∷ [])
four dir a b c d fa fb fc fd = All-cons (FitsSpot dir) a (b ∷ c ∷ d ∷ []) fa (three dir b c d fb fc fd)

access : FitsSpot Dl (place Aach Access)
access = record { here = refl; size = refl }

access_sync : FitsSpot Dl (place Aach SyncAccess)
access_sync = record { here = refl; size = refl }

sync : FitsSpot Dl (place Sync SyncSpot)
sync = record { here = refl; size = refl }

first : (dir : Dir) → FitsSpot dir (place Half FirstBlock)
first dir = record { here = tt; size = refl }

second : (dir : Dir) → FitsSpot dir (place Half SecondBlock)
second dir = record { here = tt; size = refl }

full : (dir : Dir) → FitsSpot dir (place Full WholeSlot)
full dir = record { here = tt; size = refl }

first_sub : FitsSpot Ul (place Hu FirstSubslot)
first_sub = record { here = refl; size = refl }

second_sub : FitsSpot Ul (place Hu SecondSubslot)
second_sub = record { here = refl; size = refl }

-- the load of a whole traffic slot
whole : (dir : Dir) (mode : Mode) → IsTrafficMode mode → FitsSpot dir (place (traffic_name mode Whole) WholeSlot)
whole dir Sig traffic = absurd traffic
whole dir Cb traffic = absurd traffic
whole dir D72 traffic = record { here = tt; size = refl }
whole dir (D48 span) traffic = record { here = tt; size = refl }
whole dir (D24 span) traffic = record { here = tt; size = refl }
whole dir Speech traffic = record { here = tt; size = refl }

-- and of one whose first half is stolen
rest : (dir : Dir) (mode : Mode) (second_stolen : Bool) → IsTrafficMode mode → FitsSpot dir (place (traffic_name mode Single) (rest_spot mode second_stolen))
rest dir Sig second_stolen traffic = absurd traffic
rest dir Cb second_stolen traffic = absurd traffic
rest dir D72 true traffic = record { here = tt; size = refl }
rest dir D72 false traffic = record { here = tt; size = refl }
rest dir (D48 span) true traffic = record { here = tt; size = refl }
rest dir (D48 span) false traffic = record { here = tt; size = refl }
rest dir (D24 span) true traffic = record { here = tt; size = refl }
rest dir (D24 span) false traffic = record { here = tt; size = refl }
rest dir Speech second_stolen traffic = record { here = tt; size = refl }

-- the letter of a slot of a use
abbrev letter_in : Dir → SlotUse → List ℤ → Letter
letter_in dir slot soft = letter_by slot (kind soft (is_downlink dir) (allowed_in dir slot))

module _ (mode : Mode) (second_stolen : Bool) where
  -- the places of a letter are right ones
  abbrev Right : Dir → Letter → Type 0
  Right dir letter = ArePlaces dir letter (places_of dir letter mode second_stolen)

  -- signalling on the downlink, by its training sequence
  signalling_down : (train : Train) → Right Dl (letter_by Signalling train)
  signalling_down N = record {
    row = (F, D72, tt, tt, refl, inr refl);
    fit = two Dl (place Aach Access) (place Full WholeSlot) access (full Dl);
    few = omega arith;
  }
  signalling_down PTrain = record {
    row = (H, D72, tt, tt, refl, inr refl);
    fit = three Dl (place Aach Access) (place Half FirstBlock) (place Half SecondBlock) access (first Dl) (second Dl);
    few = omega arith;
  }
  signalling_down Y = record {
    row = (S, D72, tt, tt, refl, inr refl);
    fit = three Dl (place Aach SyncAccess) (place Sync SyncSpot) (place Half SecondBlock) access_sync sync (second Dl);
    few = omega arith;
  }

  signalling_up : Right Ul F
  signalling_up = record {
    row = (F, D72, tt, tt, refl, inl refl);
    fit = one Ul (place Full WholeSlot) (full Ul);
    few = omega arith;
  }

  control_up : Right Ul C
  control_up = record {
    row = (C, D72, tt, tt, refl, inl refl);
    fit = two Ul (place Hu FirstSubslot) (place Hu SecondSubslot) first_sub second_sub;
    few = omega arith;
  }

  -- traffic, whole and with a half that is stolen
  whole_places : (dir : Dir) → IsTrafficMode mode → Right dir T
  whole_places Dl traffic = record {
    row = (T, mode, tt, traffic, refl, inr refl);
    fit = two Dl (place Aach Access) (place (traffic_name mode Whole) WholeSlot) access (whole Dl mode traffic);
    few = omega arith;
  }
  whole_places Ul traffic = record {
    row = (T, mode, tt, traffic, refl, inl refl);
    fit = one Ul (place (traffic_name mode Whole) WholeSlot) (whole Ul mode traffic);
    few = omega arith;
  }

  stolen_places : (dir : Dir) → IsTrafficMode mode → Right dir P
  stolen_places Dl traffic = record {
    row = (P, mode, tt, traffic, refl, inr refl);
    fit = four Dl (place Aach Access) (place Half FirstBlock) (place Half SecondBlock) (place (traffic_name mode Single) (rest_spot mode second_stolen))
        access (first Dl) (second Dl) (rest Dl mode second_stolen traffic);
    few = omega arith;
  }
  stolen_places Ul traffic = record {
    row = (P, mode, tt, traffic, refl, inl refl);
    fit = three Ul (place Half FirstBlock) (place Half SecondBlock) (place (traffic_name mode Single) (rest_spot mode second_stolen))
        (first Ul) (second Ul) (rest Ul mode second_stolen traffic);
    few = omega arith;
  }

  signalling : (dir : Dir) (soft : List ℤ) → Right dir (letter_in dir Signalling soft)
  unfolding kind
  signalling Dl soft = signalling_down (kind soft true (allowed_in Dl Signalling))
  signalling Ul soft = signalling_up

  traffic_by : (dir : Dir) (train : Train) → IsTrafficMode mode → Right dir (letter_by Traffic train)
  traffic_by dir N traffic = whole_places dir traffic
  traffic_by dir PTrain traffic = stolen_places dir traffic
  traffic_by dir Y traffic = whole_places dir traffic

  -- frame 18 of a traffic timeslot is signalling
  traffic_frame : (dir : Dir) (soft : List ℤ) (last : Bool) → IsTrafficMode mode → Right dir (letter_in dir (if last then Signalling else Traffic) soft)
  traffic_frame dir soft true traffic = signalling dir soft
  traffic_frame dir soft false traffic = traffic_by dir (kind soft (is_downlink dir) (allowed_in dir Traffic)) traffic

by_mode : (dir : Dir) (mode : Mode) (second_stolen : Bool) (frame : ℕ) (soft : List ℤ) → HasMode dir mode
    → ArePlaces dir (letter_in dir (use_in mode frame) soft) (places_of dir (letter_in dir (use_in mode frame) soft) mode second_stolen)
by_mode dir Sig second_stolen frame soft has = signalling Sig second_stolen dir soft
by_mode Dl Cb second_stolen frame soft has = absurd has
by_mode Ul Cb second_stolen frame soft has = control_up Cb second_stolen
by_mode dir D72 second_stolen frame soft has = traffic_frame D72 second_stolen dir soft (nat_eq frame 18) tt
by_mode dir (D48 span) second_stolen frame soft has = traffic_frame (D48 span) second_stolen dir soft (nat_eq frame 18) tt
by_mode dir (D24 span) second_stolen frame soft has = traffic_frame (D24 span) second_stolen dir soft (nat_eq frame 18) tt
by_mode dir Speech second_stolen frame soft has = traffic_frame Speech second_stolen dir soft (nat_eq frame 18) tt

-- a slot of valid settings: its letter and the names of its fields are a row, and each place fits
pub are_places : (settings : Settings) (t : ℕ) (soft : List ℤ) (second_stolen : Bool) → IsValid settings
    → ArePlaces settings.dir (letter_heard settings t soft) (places_of settings.dir (letter_heard settings t soft) (mode_of settings t) second_stolen)
unfolding letter_heard use_of mode_of
are_places settings t soft second_stolen valid =
    by_mode settings.dir (mode_of settings t) second_stolen (frame_of settings.at t) soft (valid.modes (timeslot_of settings.at t - 1))

-- places with that of the load behind them
with_load_is : (places : List Place) (load : Option Place) → with_load places load ≡ places ++ option_to_list load
with_load_is places None = sym (append-nil places)
with_load_is places (Some load) = refl

-- the places in front of the load fit, and so does that of the load
fit_parts : (dir : Dir) (places : List Place) (load : Option Place) → All (FitsSpot dir) (with_load places load)
    → All (FitsSpot dir) places × IfSome load (FitsSpot dir)
fit_parts dir places load fit = All-pop (FitsSpot dir) (with_load places load) places load (with_load_is places load) fit

-- the places in front of the load of a slot of valid settings fit, and so does that of its load
module _ (settings : Settings) (t : ℕ) (soft : List ℤ) (valid : IsValid settings) where
  fits : (second_stolen : Bool)
      → All (FitsSpot settings.dir) (places_before_load settings.dir (letter_heard settings t soft))
      × IfSome (load_place (letter_heard settings t soft) (mode_of settings t) second_stolen) (FitsSpot settings.dir)
  fits second_stolen =
      fit_parts settings.dir (places_before_load settings.dir (letter_heard settings t soft)) (load_place (letter_heard settings t soft) (mode_of settings t) second_stolen)
      (are_places settings t soft second_stolen valid).fit

  pub before_fits : All (FitsSpot settings.dir) (places_before_load settings.dir (letter_heard settings t soft))
  before_fits = (fits true).0

  pub load_fits : (second_stolen : Bool) (load : Option Place) → load ≡ load_place (letter_heard settings t soft) (mode_of settings t) second_stolen
      → IfSome load (FitsSpot settings.dir)
  load_fits second_stolen load e = rw e (fits second_stolen).1
