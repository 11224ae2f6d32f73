-- What decoding reads of slots that encoding wrote: of each slot that arrives undamaged its blocks, whatever became of
-- the others, and of protected data each block whose slots do.
use Rattle.std.specs.Prelude.{◌≡◌, ℕ, ◌+◌, ◌<◌, ◌≤◌, false, List, [], ◌∷◌, ◌++◌, length, take, replicate, slice_index_or, All, ⊤}
use Rattle.std.specs.List.{concat}
use Rattle.tetra_settings.specs.declared.blocks.SlotBlocks.{SlotBlocks}
use Rattle.tetra_settings.specs.declared.readings.SlotReading.{SlotReading}
use Rattle.tetra_settings.specs.declared.types.Form.{Form}
use Rattle.tetra_settings.specs.declared.types.Settings.{Settings}
use Rattle.tetra_records.specs.Readings.{reading_spelling}
use Rattle.tetra_bits.specs.declared.reading.Mark.TheVariants.{Unchecked, NotYet}
use Rattle.tetra_settings.specs.Readings.{message_bits, traffic_name}
use Rattle.tetra_settings.specs.Slots.{timeslot_of, mode_of, use_of}
use Rattle.tetra_settings.specs.declared.readings.FieldName.{FieldName}
use Rattle.tetra_settings.specs.declared.readings.FieldName.TheVariants.{Whole}
use Rattle.tetra_settings.specs.declared.slots.Letter.{Letter}
use Rattle.tetra_settings.specs.declared.slots.SlotUse.TheVariants.{Traffic}
use Rattle.tetra_session.specs.Arrives.{HasField, HasFieldUpTo, SlotRead}
use Rattle.tetra_session.specs.Data.{LastSlots, IsWhole, load_index, load_sent}
use Rattle.tetra_session.specs.Heard.{letter_heard}
use Rattle.tetra_session.specs.Sent.{slot_written, KeepsSlot}
use Rattle.tetra_session.specs.Time.{timeslot_mode, depth, own}
use Rattle.tetra_engine.specs.declared.status.Status.TheVariants.{Done}
use Rattle.tetra_engine.specs.declared.status.End.{End}
use Rattle.tetra_engine.specs.Agreeing.{to_read_back}
use Rattle.tetra_engine.specs.Decoding.{decoding, framed}
use Rattle.tetra_engine.specs.Encoding.{encoding}
use Rattle.tetra_engine.specs.Outcomes.{Outcome}
use Rattle.tetra_engine.specs.Slots.{soft_values, slot_bytes}

-- a received slot is undamaged against the one that was written for blocks behind those before
abbrev pub IsKept : Settings → List SlotBlocks → SlotBlocks → List ℕ → Type 0
IsKept settings before blocks slot = KeepsSlot settings before blocks (soft_values slot)

-- received slots, one for each of the blocks that were sent: each of 510 bytes, whatever they are
pub record AreReceived (blocks : List SlotBlocks) (slots : List (List ℕ)) : Type 0 where
  pub many : length slots ≡ length blocks
  pub sizes : All (λ slot. length slot ≡ 510) slots

-- one reading for each slot, which names the blocks of the slot where When says so
abbrev pub AreRead : (List SlotBlocks → SlotBlocks → List ℕ → Type 0)
    → List SlotBlocks → List SlotBlocks → List (List ℕ) → List SlotReading → Type 0
AreRead When before [] [] [] = Unit {0}
AreRead When before (blocks ∷ more) (slot ∷ slots) (reading ∷ readings) =
    (When before blocks slot → SlotRead blocks reading) × AreRead When (before ++ blocks ∷ []) more slots readings
AreRead When before blocks slots readings = ⊥

-- Protected data, whose blocks come over several slots: the field of the load in the reading of the last of these slots,
-- which is one of traffic of timeslot c and is read with this letter. It is not yet there in the first n - 1 traffic
-- slots; then, where Kept says so of each of the n slots of the block that is complete, it names that block, or where
-- something was stolen of them, that or one that stands before it in bit order.
pub record DataIsRead (Kept : ℕ → Type 0) (settings : Settings) (c : ℕ) (history : List SlotBlocks) (letter : Letter)
    (name : FieldName) (reading : SlotReading) : Type 0 where
  pub early : length (own settings.at c history) < depth (timeslot_mode settings c)
      → HasField reading (load_index settings.dir letter) name NotYet (replicate (message_bits name) false)
  pub complete : depth (timeslot_mode settings c) ≤ length (own settings.at c history)
      → LastSlots Kept settings c history → LastSlots (IsWhole history) settings c history
      → (other : SlotBlocks)
      → HasField reading (load_index settings.dir letter) name Unchecked (load_sent settings c history other)
  pub stolen : depth (timeslot_mode settings c) ≤ length (own settings.at c history)
      → LastSlots Kept settings c history
      → (other : SlotBlocks)
      → HasFieldUpTo reading (load_index settings.dir letter) name Unchecked (load_sent settings c history other)

-- so each slot of traffic in a timeslot that spreads its blocks is read, where When says which slots were kept
abbrev pub AreDataRead : (List SlotBlocks → SlotBlocks → List ℕ → Type 0)
    → Settings → List SlotBlocks → List (List ℕ) → List SlotReading → Type 0
AreDataRead When settings blocks slots readings =
    (t : ℕ) (none : List ℕ) (other : SlotReading) → t < length slots
    → use_of settings t ≡ Traffic → 1 ≤ depth (mode_of settings t)
    → DataIsRead (λ u. (blank : SlotBlocks) (empty : List ℕ)
    → When (take u blocks) (slice_index_or blocks u blank) (slice_index_or slots u empty))
    settings (timeslot_of settings.at t) (take (t + 1) blocks)
    (letter_heard settings t (soft_values (slice_index_or slots t none))) (traffic_name (mode_of settings t) Whole)
    (slice_index_or readings t other)

-- the records of readings, each behind the bytes of its slot where they are to be audited
abbrev pub records : Form → List (List ℕ) → List SlotReading → List ℕ
records form (slot ∷ slots) (reading ∷ readings) =
    framed form slot (reading_spelling form reading) ++ records form slots readings
records form slots readings = []

-- bytes that are the records of such readings
pub record NameBlocks (When : List SlotBlocks → SlotBlocks → List ℕ → Type 0) (settings : Settings) (form : Form)
    (blocks : List SlotBlocks) (slots : List (List ℕ)) (bytes : List ℕ) : Type 0 where
  pub readings : List SlotReading
  pub read : AreRead When [] blocks slots readings
  pub over_slots : AreDataRead When settings blocks slots readings
  pub spelled : bytes ≡ records form slots readings

-- Decoding what was received of a run of encoding in which no read and no write failed ends Done, with as many slots,
-- and names the blocks of each slot that arrived undamaged.
abbrev pub ReceivedIsDecoded : Type 0
ReceivedIsDecoded =
    (settings : Settings) (form : Form) (max : ℕ) (bytes : List ℕ) (end : End)
    (ran : Outcome (encoding settings) settings.max bytes (λ written. ⊤) end) (received : List (List ℕ))
    → end.slots ≤ max → AreReceived ran.xs received
    → Outcome (decoding (to_read_back settings form max)) max (concat received)
    (NameBlocks (IsKept settings) settings form ran.xs received) (record { status = Done; slots = end.slots })

-- the bytes of the slots that are written for blocks behind those before
abbrev pub slots_for : Settings → List SlotBlocks → List SlotBlocks → List (List ℕ)
slots_for settings before [] = []
slots_for settings before (blocks ∷ more) =
    slot_bytes (slot_written settings before blocks) ∷ slots_for settings (before ++ blocks ∷ []) more

-- Decoding the bytes that encoding wrote names the blocks of all slots.
abbrev pub EncodedIsDecoded : Type 0
EncodedIsDecoded =
    (settings : Settings) (form : Form) (max : ℕ) (bytes written : List ℕ) (end : End)
    (ran : Outcome (encoding settings) settings.max bytes (λ output. output ≡ written) end)
    → end.slots ≤ max
    → Outcome (decoding (to_read_back settings form max)) max written
    (NameBlocks (λ before blocks slot. ⊤) settings form ran.xs (slots_for settings [] ran.xs))
    (record { status = Done; slots = end.slots })
