-- What is read of undamaged slots.
use Rattle.std.specs.Prelude.{◌≡◌, ℕ, ◌+◌, ℤ, Bool, List, length, take, drop, slice_index_or, None, Some}
use Rattle.std.specs.declared.option.Option.{Option}
use Rattle.tetra_bits.specs.Digits.{digits}
use Rattle.tetra_bits.specs.Soft.{AllSoft}
use Rattle.tetra_bits.specs.declared.reading.Mark.{Mark}
use Rattle.tetra_bits.specs.declared.reading.Mark.TheVariants.{Good, Unchecked}
use Rattle.tetra_channels.specs.Channels.{bsch, hu, half, full, message_of}
use Rattle.tetra_channels.specs.Laws.{IsUpTo}
use Rattle.tetra_settings.specs.Slots.{byte_of}
use Rattle.tetra_settings.specs.declared.slots.Letter.{Letter}
use Rattle.tetra_settings.specs.declared.slots.Letter.TheVariants.{F, H, S, T, P, Q, C}
use Rattle.tetra_settings.specs.Blocks.{Fits, letter_of}
use Rattle.tetra_settings.specs.declared.types.Settings.{Settings}
use Rattle.tetra_settings.specs.declared.blocks.Body.{Body}
use Rattle.tetra_settings.specs.declared.blocks.Body.TheVariants.{Full, Halves, Sync, Traffic, Stolen, Both, Control}
use Rattle.tetra_settings.specs.declared.blocks.SlotBlocks.{SlotBlocks}
use Rattle.tetra_settings.specs.declared.readings.FieldName.{FieldName}
use Rattle.tetra_settings.specs.declared.readings.FieldName.TheVariants.{Aach, Sync as SyncName, Half, Hu, Full as FullName, D72, Whole, Single}
use Rattle.tetra_settings.specs.declared.readings.Field.{Field}
use Rattle.tetra_settings.specs.declared.readings.SlotReading.{SlotReading}
use Rattle.tetra_speech.specs.Words.{whole_message, half_message}
use Rattle.tetra_session.specs.Sent.{KeepsSlot, slot_written}
use Rattle.tetra_session.specs.Heard.{slot_reading}

-- field i of a reading, counted from 0: these bits without cost
pub record HasField (reading : SlotReading) (i : ℕ) (name : FieldName) (mark : Mark) (bits : List Bool) : Type 0 where
  pub field : Field
  pub there : (other : Field) → slice_index_or reading.fields.items i other ≡ field
  pub name_is : field.name ≡ name
  pub mark_is : field.reading.mark ≡ mark
  pub free : field.reading.metric ≡ 0
  pub bits_are : field.reading.bits ≡ bits

-- the same, but for bits that may stand before these in bit order, as where some of their positions were stolen
pub record HasFieldUpTo (reading : SlotReading) (i : ℕ) (name : FieldName) (mark : Mark) (bits : List Bool) : Type 0 where
  pub field : Field
  pub there : (other : Field) → slice_index_or reading.fields.items i other ≡ field
  pub name_is : field.name ≡ name
  pub mark_is : field.reading.mark ≡ mark
  pub free : field.reading.metric ≡ 0
  pub up_to : IsUpTo bits field.reading.bits

-- a subslot is read where it was sent
abbrev pub SubslotRead : Option (List Bool) → SlotReading → ℕ → Type 0
SubslotRead None reading i = Unit {0}
SubslotRead (Some block) reading i = HasField reading i Hu Good (message_of hu block)

-- the blocks of a body are read, in the fields from i on: with their parity and Good, and unprotected data, loads of 432
-- bits, Unchecked; speech is a load of 274 bits, or of 137 in half a slot. Protected data comes over several slots: see
-- there. Nothing is said of the second half slot channel where speech was sent, nor of speech where that was sent
abbrev pub BlocksRead : Body → SlotReading → ℕ → Type 0
BlocksRead (Full block) reading i = HasField reading i FullName Good (message_of full block)
BlocksRead (Halves first second) reading i =
    HasField reading i Half Good (message_of half first) × HasField reading (i + 1) Half Good (message_of half second)
BlocksRead (Sync sync second) reading i =
    HasField reading i SyncName Good (message_of bsch sync) × HasField reading (i + 1) Half Good (message_of half second)
BlocksRead (Traffic load) reading i =
    (length load ≡ 432 → HasField reading i D72 Unchecked load)
    × (length load ≡ 274 → HasField reading i Whole Good (whole_message (take 137 load) (take 137 (drop 137 load))))
BlocksRead (Stolen first load) reading i =
    HasField reading i Half Good (message_of half first)
    × (length load ≡ 432 → HasFieldUpTo reading (i + 2) D72 Unchecked load)
    × (length load ≡ 137 → HasField reading (i + 2) Single Good (half_message load))
BlocksRead (Both first second load) reading i =
    HasField reading i Half Good (message_of half first) × HasField reading (i + 1) Half Good (message_of half second)
    × (length load ≡ 432 → HasFieldUpTo reading (i + 2) D72 Unchecked load)
BlocksRead (Control first second) reading i = SubslotRead first reading i × SubslotRead second reading (i + 1)

-- the access field is read in front of them, where there is one
abbrev pub AccessRead : Option ℕ → Body → SlotReading → Type 0
AccessRead None body reading = BlocksRead body reading 0
AccessRead (Some message) body reading =
    HasField reading 0 Aach Unchecked (digits 14 message) × BlocksRead body reading 1

-- the letter as which a slot is read: a receiver does not know Q from P
abbrev pub letter_read : Letter → Letter
letter_read F = F
letter_read H = H
letter_read S = S
letter_read T = T
letter_read P = P
letter_read Q = P
letter_read C = C

-- an undamaged slot has the letter that was written, P for Q, and is read as the blocks that were written
pub record SlotRead (blocks : SlotBlocks) (reading : SlotReading) : Type 0 where
  pub letter : reading.letter ≡ byte_of (letter_read (letter_of blocks.body))
  pub fields : AccessRead blocks.aach blocks.body reading

abbrev pub SlotsArrive : Type 0
SlotsArrive =
    (settings : Settings) (history : List SlotBlocks) (blocks : SlotBlocks)
    (earlier : List (List ℤ)) (received : List ℤ)
    → Fits settings (length history) blocks → length earlier ≡ length history → KeepsSlot settings history blocks received
    → SlotRead blocks (slot_reading settings earlier received)

-- a slot as it was written: 510 soft values, and undamaged
pub record ArrivesAsWritten (settings : Settings) (history : List SlotBlocks) (blocks : SlotBlocks) : Type 0 where
  pub size : length (slot_written settings history blocks) ≡ 510
  pub soft : AllSoft (slot_written settings history blocks)
  pub kept : KeepsSlot settings history blocks (slot_written settings history blocks)

abbrev pub WrittenSlotsArrive : Type 0
WrittenSlotsArrive = (settings : Settings) (history : List SlotBlocks) (blocks : SlotBlocks)
    → ArrivesAsWritten settings history blocks
