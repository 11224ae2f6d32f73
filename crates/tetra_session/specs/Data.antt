-- What is read of protected data, whose blocks are spread over the traffic slots of a timeslot.
use Rattle.std.specs.Prelude.{◌≡◌, ℕ, ◌+◌, ◌-◌, ◌<◌, ◌≤◌, Bool, true, false, List, [], ◌∷◌, ◌++◌, length, take, replicate, slice_index_or, ℤ}
use Rattle.tetra_bits.specs.declared.reading.Mark.TheVariants.{Unchecked, NotYet}
use Rattle.tetra_settings.specs.Blocks.{Fits, letter_of}
use Rattle.tetra_settings.specs.Readings.{message_bits, traffic_name}
use Rattle.tetra_settings.specs.Slots.{timeslot_of, mode_of, use_of}
use Rattle.tetra_settings.specs.declared.types.Dir.{Dir}
use Rattle.tetra_settings.specs.declared.types.Settings.{Settings}
use Rattle.tetra_settings.specs.declared.blocks.SlotBlocks.{SlotBlocks}
use Rattle.tetra_settings.specs.declared.readings.FieldName.{FieldName}
use Rattle.tetra_settings.specs.declared.readings.FieldName.TheVariants.{Whole}
use Rattle.tetra_settings.specs.declared.readings.SlotReading.{SlotReading}
use Rattle.tetra_settings.specs.declared.slots.Letter.{Letter}
use Rattle.tetra_settings.specs.declared.slots.Letter.TheVariants.{T}
use Rattle.tetra_settings.specs.declared.slots.SlotUse.TheVariants.{Traffic}
use Rattle.tetra_session.specs.Arrives.{HasField, HasFieldUpTo}
use Rattle.tetra_session.specs.Heard.{letter_heard, slot_reading}
use Rattle.tetra_session.specs.Sent.{KeepsSlot, load_of}
use Rattle.tetra_session.specs.Spots.{places_before_load}
use Rattle.tetra_session.specs.Time.{timeslot_mode, depth, counts, own}

-- slot t was sent with blocks that fit it, and was received undamaged
pub record IsKept (settings : Settings) (history : List SlotBlocks) (received : List (List ℤ)) (t : ℕ) : Type 0 where
  pub fits : (other : SlotBlocks) → Fits settings t (slice_index_or history t other)
  pub kept : (other : SlotBlocks) (silent : List ℤ)
      → KeepsSlot settings (take t history) (slice_index_or history t other) (slice_index_or received t silent)

-- the slots over which the last complete block of timeslot c is spread, so the last n of its traffic slots, are as P says
abbrev pub LastSlots : (ℕ → Type 0) → Settings → ℕ → List SlotBlocks → Type 0
LastSlots P settings c history = (t : ℕ) → t < length history → counts settings.at c t ≡ true
    → length (own settings.at c history) ≤ length (own settings.at c (take t history)) + depth (timeslot_mode settings c)
    → P t

-- nothing was stolen of slot t
abbrev pub IsWhole : List SlotBlocks → ℕ → Type 0
IsWhole history t = (other : SlotBlocks) → letter_of (slice_index_or history t other).body ≡ T

-- the field of the load stands behind the other fields of its slot
abbrev pub load_index : Dir → Letter → ℕ
load_index dir letter = length (places_before_load dir letter)

-- the load of the block of timeslot c that is complete with these slots: that of the n-th from the end of its traffic
-- slots
abbrev pub load_sent : Settings → ℕ → List SlotBlocks → SlotBlocks → List Bool
load_sent settings c history other =
    load_of (slice_index_or (own settings.at c history)
    (length (own settings.at c history) - depth (timeslot_mode settings c)) other).body

-- the field of the load in the reading of the last of these slots, which is one of timeslot c and is read with this
-- letter: not yet in its first n - 1 traffic slots; then, where the slots of the block all came undamaged, without cost
-- the block as it was written, or where something was stolen of them, that or one that stands before it in bit order
pub record DataRead (settings : Settings) (c : ℕ) (history : List SlotBlocks) (received : List (List ℤ)) (letter : Letter) (name : FieldName) (reading : SlotReading) : Type 0 where
  pub early : length (own settings.at c history) < depth (timeslot_mode settings c)
      → HasField reading (load_index settings.dir letter) name NotYet (replicate (message_bits name) false)
  pub complete : depth (timeslot_mode settings c) ≤ length (own settings.at c history)
      → LastSlots (IsKept settings history received) settings c history → LastSlots (IsWhole history) settings c history
      → (other : SlotBlocks)
      → HasField reading (load_index settings.dir letter) name Unchecked (load_sent settings c history other)
  pub stolen : depth (timeslot_mode settings c) ≤ length (own settings.at c history)
      → LastSlots (IsKept settings history received) settings c history
      → (other : SlotBlocks)
      → HasFieldUpTo reading (load_index settings.dir letter) name Unchecked (load_sent settings c history other)

-- protected data over any history
abbrev pub DataArrives : Type 0
DataArrives =
    (settings : Settings) (history : List SlotBlocks) (blocks : SlotBlocks) (received : List (List ℤ)) (soft : List ℤ)
    → length received ≡ length history
    → use_of settings (length history) ≡ Traffic → 1 ≤ depth (mode_of settings (length history))
    → DataRead settings (timeslot_of settings.at (length history)) (history ++ blocks ∷ []) (received ++ soft ∷ [])
    (letter_heard settings (length history) soft) (traffic_name (mode_of settings (length history)) Whole)
    (slot_reading settings received soft)
