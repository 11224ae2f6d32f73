-- A sender as C has it: what it stands for, and when it writes a slot.
use Rattle.std.specs.Prelude.{ℕ, ◌≡◌, ◌<◌, ◌-◌, Bool, List, [], length, None, Some, nat_lt, not, ◌&&◌, if◌then◌else◌, slice_index_or}
use Rattle.std.specs.declared.option.Option.{Option}
use Rattle.tetra_settings.specs.declared.types.Settings.{Settings}
use Rattle.tetra_settings.specs.declared.blocks.SlotBlocks.{SlotBlocks}
use Rattle.tetra_session.specs.Four.{FourStand}
use Rattle.tetra_session.specs.Sent.{block_sent}
use Rattle.tetra_session.specs.Time.{depth, timeslot_mode}
use Rattle.tetra_c.specs.Blocks.{fields_fault, misfit}
use Rattle.tetra_c.specs.Faults.{or_else}
use Rattle.tetra_c.specs.KeptBlocks.{KeptStands}
use Rattle.tetra_c.specs.Rings.{is_ring}
use Rattle.tetra_c.specs.Settings.{settings_fault, settings_of}
use Rattle.tetra_c.specs.declared.kept_blocks.TetraKeptBlocks.{TetraKeptBlocks}
use Rattle.tetra_c.specs.declared.sender.TetraSender.{TetraSender}
use Rattle.tetra_c.specs.declared.blocks.TetraBlocks.{TetraBlocks}
use Rattle.tetra_c.specs.declared.fault.Fault.{Fault}
use Rattle.tetra_c.specs.declared.fault.Fault.TheVariants.{Turn, Kept}

-- no block is kept
abbrev pub none_kept : TetraKeptBlocks
none_kept = record { count = 0; oldest = 0; blocks = [] }

-- a sender stands for its settings and for the blocks of the slots that it has written
pub record SenderIs (settings : Settings) (history : List SlotBlocks) (sender : TetraSender) : Type 0 where
  pub same : settings_of sender.settings ≡ settings
  pub turn : sender.turn ≡ length history
  pub timeslots : FourStand KeptStands block_sent none_kept settings history sender.lanes

-- of each timeslot no block is kept
abbrev pub AreClear : List TetraKeptBlocks → Type 0
AreClear lanes = (k : ℕ) → k < 4 → ((slice_index_or lanes k none_kept).count ≡ 0) × ((slice_index_or lanes k none_kept).oldest ≡ 0)

-- what is kept of timeslot c is what its mode keeps
abbrev pub is_lane : Settings → List TetraKeptBlocks → ℕ → Bool
is_lane settings lanes c =
    let lane = slice_index_or lanes (c - 1) none_kept in
    is_ring (depth (timeslot_mode settings c)) lane.count lane.oldest

abbrev pub are_lanes : Settings → List TetraKeptBlocks → Bool
are_lanes settings lanes =
    is_lane settings lanes 1 && is_lane settings lanes 2 && is_lane settings lanes 3 && is_lane settings lanes 4

-- why a sender of valid settings writes no slot
abbrev pub state_fault : TetraSender → Option Fault
state_fault sender =
    if not (nat_lt sender.turn 16777216) then Some Turn
    else (if not (are_lanes (settings_of sender.settings) sender.lanes) then Some Kept else None)

-- why a sender writes no slot
abbrev pub sender_fault : TetraSender → Option Fault
sender_fault sender = or_else (settings_fault sender.settings) (state_fault sender)

-- why a sender does not write a slot with these blocks
abbrev pub slot_fault : TetraSender → TetraBlocks → Option Fault
slot_fault sender blocks =
    or_else (fields_fault blocks)
    (or_else (sender_fault sender) (misfit (settings_of sender.settings) sender.turn blocks))
