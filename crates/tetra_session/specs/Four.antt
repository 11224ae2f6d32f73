-- Four timeslots, each with what it keeps of its own slots.
use Rattle.std.specs.Prelude.{ℕ, ◌-◌, ◌≤◌, List, map, slice_index_or}
use Rattle.tetra_settings.specs.Slots.{timeslot_of, mode_of}
use Rattle.tetra_settings.specs.declared.types.Mode.{Mode}
use Rattle.tetra_settings.specs.declared.types.Settings.{Settings}
use Rattle.tetra_session.specs.Time.{own, timeslot_mode, depth}

-- what the slots of timeslot c in frames 1 to 17 bring to it, by its mode
abbrev pub all_brought : {X Y : Type 0} → (Mode → X → Y) → Settings → ℕ → List X → List Y
all_brought brought settings c history = map (brought (timeslot_mode settings c)) (own settings.at c history)

-- the lane of each timeslot stands, at the depth of its mode, for what its slots brought
abbrev pub FourStand : {X Y L : Type 0} → (ℕ → List Y → L → Type 0) → (Mode → X → Y) → L → Settings → List X → List L → Type 0
FourStand Stands brought none settings history lanes =
    (c : ℕ) → 1 ≤ c → c ≤ 4
    → Stands (depth (timeslot_mode settings c)) (all_brought brought settings c history) (slice_index_or lanes (c - 1) none)

-- the lane of the timeslot of slot t stands, at the depth of its mode, for what its slots brought
abbrev pub TurnStands : {X Y L : Type 0} → (ℕ → List Y → L → Type 0) → (Mode → X → Y) → Settings → ℕ → List X → L → Type 0
TurnStands Stands brought settings t history lane =
    Stands (depth (mode_of settings t)) (all_brought brought settings (timeslot_of settings.at t) history) lane
