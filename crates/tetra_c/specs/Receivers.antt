-- A receiver as C has it: what it stands for, and when it reads a slot.
use Rattle.std.specs.Prelude.{ℕ, ◌≡◌, ◌<◌, ◌-◌, ℤ, Bool, List, [], length, None, Some, nat_lt, not, ◌&&◌, if◌then◌else◌, slice_index_or}
use Rattle.std.specs.declared.option.Option.{Option}
use Rattle.tetra_scramble.specs.Key.{key_of}
use Rattle.tetra_settings.specs.declared.types.Settings.{Settings}
use Rattle.tetra_session.specs.Four.{FourStand}
use Rattle.tetra_session.specs.Heard.{word_heard}
use Rattle.tetra_session.specs.Time.{depth, timeslot_mode}
use Rattle.tetra_c.specs.Faults.{or_else}
use Rattle.tetra_c.specs.KeptWords.{KeptStands}
use Rattle.tetra_c.specs.Rings.{is_ring}
use Rattle.tetra_c.specs.Settings.{settings_fault, settings_of}
use Rattle.tetra_c.specs.declared.fault.Fault.{Fault}
use Rattle.tetra_c.specs.declared.fault.Fault.TheVariants.{Turn, Kept}
use Rattle.tetra_c.specs.declared.kept_words.TetraKeptWords.{TetraKeptWords}
use Rattle.tetra_c.specs.declared.receiver.TetraReceiver.{TetraReceiver}

-- no word is kept
abbrev pub none_kept : TetraKeptWords
none_kept = record { count = 0; oldest = 0; words = [] }

-- a receiver stands for its settings and for the slots that it has read, each a list of 510 soft values
pub record ReceiverIs (settings : Settings) (history : List (List ℤ)) (receiver : TetraReceiver) : Type 0 where
  pub same : settings_of receiver.settings ≡ settings
  pub turn : receiver.turn ≡ length history
  pub timeslots : FourStand KeptStands (word_heard settings.dir (key_of settings.colour)) none_kept settings history
      receiver.lanes

-- of each timeslot no word is kept
abbrev pub AreClear : List TetraKeptWords → Type 0
AreClear lanes = (k : ℕ) → k < 4 → ((slice_index_or lanes k none_kept).count ≡ 0) × ((slice_index_or lanes k none_kept).oldest ≡ 0)

-- what is kept of timeslot c is what its mode keeps
abbrev pub is_lane : Settings → List TetraKeptWords → ℕ → Bool
is_lane settings lanes c =
    let lane = slice_index_or lanes (c - 1) none_kept in
    is_ring (depth (timeslot_mode settings c)) lane.count lane.oldest

abbrev pub are_lanes : Settings → List TetraKeptWords → Bool
are_lanes settings lanes =
    is_lane settings lanes 1 && is_lane settings lanes 2 && is_lane settings lanes 3 && is_lane settings lanes 4

-- why a receiver of valid settings reads no slot
abbrev pub state_fault : TetraReceiver → Option Fault
state_fault receiver =
    if not (nat_lt receiver.turn 16777216) then Some Turn
    else (if not (are_lanes (settings_of receiver.settings) receiver.lanes) then Some Kept else None)

-- why a receiver reads no slot
abbrev pub receiver_fault : TetraReceiver → Option Fault
receiver_fault receiver = or_else (settings_fault receiver.settings) (state_fault receiver)
