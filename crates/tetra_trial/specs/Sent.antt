-- What was sent in the place of each field of a slot. This project's own.
use Rattle.std.specs.Prelude.{ℕ, ◌-◌, nat_eq, Bool, List, [], ◌∷◌, ◌++◌, length, Some, None, if◌then◌else◌}
use Rattle.std.specs.declared.option.Option.{Option}
use Rattle.tetra_bits.specs.Digits.{digits}
use Rattle.tetra_settings.specs.Blocks.{letter_of}
use Rattle.tetra_settings.specs.Slots.{timeslot_of, mode_of, byte_of}
use Rattle.tetra_settings.specs.declared.types.Mode.{Mode}
use Rattle.tetra_settings.specs.declared.types.Mode.TheVariants.{Sig, Cb, D72, D48, D24, Speech}
use Rattle.tetra_settings.specs.declared.types.Settings.{Settings}
use Rattle.tetra_settings.specs.declared.blocks.Body.{Body}
use Rattle.tetra_settings.specs.declared.blocks.Body.TheVariants.{Full, Halves, Sync, Traffic, Stolen, Both, Control}
use Rattle.tetra_settings.specs.declared.blocks.SlotBlocks.{SlotBlocks}
use Rattle.tetra_session.specs.Arrives.{letter_read}
use Rattle.tetra_session.specs.Four.{all_brought}
use Rattle.tetra_session.specs.Sent.{load_of}
use Rattle.tetra_session.specs.Time.{span_slots}
use Rattle.tetra_trial.specs.Loads.{load_before}

-- the load of a slot, whatever the mode of its timeslot
abbrev pub load_brought : Mode → SlotBlocks → List Bool
load_brought mode blocks = load_of blocks.body

-- the loads of the traffic slots of timeslot c
abbrev pub loads_sent : Settings → ℕ → List SlotBlocks → List (List Bool)
loads_sent settings c history = all_brought load_brought settings c history

-- what was sent in the place of the field of a load, whose timeslot had these loads before: of data that is spread over n
-- traffic slots the load of the traffic slot that lies n - 1 before it, else the load itself
abbrev pub load_in_place : Mode → List (List Bool) → List Bool → Option (List Bool)
load_in_place D72 before load = Some load
load_in_place (D48 span) before load = load_before (span_slots span - 1) (before ++ load ∷ [])
load_in_place (D24 span) before load = load_before (span_slots span - 1) (before ++ load ∷ [])
load_in_place Speech before load = Some load
load_in_place Sig before load = None
load_in_place Cb before load = None

-- the same where both half slots are stolen, so that no speech is sent
abbrev pub data_in_place : Mode → List (List Bool) → List Bool → Option (List Bool)
data_in_place Speech before load = None
data_in_place D72 before load = load_in_place D72 before load
data_in_place (D48 span) before load = load_in_place (D48 span) before load
data_in_place (D24 span) before load = load_in_place (D24 span) before load
data_in_place Sig before load = None
data_in_place Cb before load = None

-- what was sent in the places of the fields behind the access field, and none up to three. The second half of a slot of
-- which the first is stolen is read as a half slot channel too, but none is sent there
abbrev pub body_in_place : Mode → List (List Bool) → Body → List (Option (List Bool))
body_in_place mode before (Full block) = Some block ∷ None ∷ None ∷ []
body_in_place mode before (Halves first second) = Some first ∷ Some second ∷ None ∷ []
body_in_place mode before (Sync sync half) = Some sync ∷ Some half ∷ None ∷ []
body_in_place mode before (Traffic load) = load_in_place mode before load ∷ None ∷ None ∷ []
body_in_place mode before (Stolen first load) = Some first ∷ None ∷ load_in_place mode before load ∷ []
body_in_place mode before (Both first second load) = Some first ∷ Some second ∷ data_in_place mode before load ∷ []
body_in_place mode before (Control first second) = first ∷ second ∷ None ∷ []

-- the bits of an access field, where there is one
abbrev pub access_sent : Option ℕ → Option (List Bool)
access_sent None = None
access_sent (Some message) = Some (digits 14 message)

-- the access field stands in front, where there is one; in all there are four places
abbrev pub behind_access : Option (List Bool) → List (Option (List Bool)) → List (Option (List Bool))
behind_access None fields = fields ++ None ∷ []
behind_access (Some access) fields = Some access ∷ fields

-- what was sent in the places of the fields of the slot that follows these, where it is read with its letter
abbrev pub sent_in_place : Settings → List SlotBlocks → SlotBlocks → List (Option (List Bool))
sent_in_place settings history blocks =
    let t = length history in
    behind_access (access_sent blocks.aach)
    (body_in_place (mode_of settings t) (loads_sent settings (timeslot_of settings.at t) history) blocks.body)

-- a slot is read with the letter that was sent, P for Q
abbrev pub has_letter : SlotBlocks → ℕ → Bool
has_letter blocks letter = nat_eq letter (byte_of (letter_read (letter_of blocks.body)))

-- what was sent in the places of the fields of the slot that follows these, where it is read with this letter: nothing
-- where that is another
abbrev pub in_place : Settings → List SlotBlocks → SlotBlocks → ℕ → List (Option (List Bool))
in_place settings history blocks letter =
    if has_letter blocks letter then sent_in_place settings history blocks
    else None ∷ None ∷ None ∷ None ∷ []
