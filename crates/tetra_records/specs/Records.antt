-- What bytes say of the record of a slot.
use Rattle.std.specs.Prelude.{ℕ, ◌≡◌, ◌⊎◌, ◌<◌, nat_le, Bool, not, if◌then◌else◌, List, [], ◌∷◌, ◌++◌, length, take, None, Some, Ok, Err, Result}
use Rattle.std.specs.Io.KnownBytes.{Consumes, IsAtEnd}
use Rattle.std.specs.declared.option.Option.{Option}
use Rattle.tetra_io.specs.Streams.{Rose, next_count}
use Rattle.tetra_io.specs.Filling.{AreTold, Went}
use Rattle.tetra_settings.specs.declared.types.Settings.{Settings}
use Rattle.tetra_settings.specs.declared.slots.Letter.{Letter}
use Rattle.tetra_settings.specs.declared.blocks.SlotBlocks.{SlotBlocks}
use Rattle.tetra_settings.specs.Slots.{use_of, mode_of, letter_of_byte, is_allowed}
use Rattle.tetra_settings.specs.Blocks.{Fits}
use Rattle.tetra_records.specs.declared.faults.RecordFault.{RecordFault}
use Rattle.tetra_records.specs.declared.faults.RecordFault.TheVariants.{UnknownKind, WrongKind, PadBit, Truncated}
use Rattle.tetra_records.specs.declared.faults.NextFault.{NextFault}
use Rattle.tetra_records.specs.declared.faults.NextFault.TheVariants.{Source, Bad}
use Rattle.tetra_records.specs.declared.parsing.Layout.{Layout}
use Rattle.tetra_records.specs.Spelling.{spelling}
use Rattle.tetra_records.specs.Layouts.{record_bytes, RecordHasPad}

-- the layout of a letter in slot t
abbrev pub layout_of : Settings → ℕ → Letter → Layout
layout_of settings t letter = record { dir = settings.dir; letter = letter; mode = mode_of settings t }

-- whether slot t may carry a letter
abbrev pub allows_letter : Settings → ℕ → Letter → Bool
allows_letter settings t letter = is_allowed settings.dir (use_of settings t) letter

abbrev pub why_behind : Settings → ℕ → Option Letter → List ℕ → RecordFault
why_behind settings t None bytes = UnknownKind
why_behind settings t (Some letter) bytes =
    if not (allows_letter settings t letter) then WrongKind
    else if nat_le (record_bytes (layout_of settings t letter) bytes) (length bytes) then PadBit
    else Truncated

-- why bytes begin with no record of slot t; nothing at all is a record that was cut off
unfoldable pub why : Settings → ℕ → List ℕ → RecordFault
why settings t [] = Truncated
why settings t (byte ∷ bytes) = why_behind settings t (letter_of_byte byte) bytes

-- no front of the bytes is the record of blocks that slot t may carry
unfoldable pub NoneBegins : Settings → ℕ → List ℕ → Type 0
NoneBegins settings t bytes = (blocks : SlotBlocks) (rest : List ℕ)
    → Fits settings t blocks → bytes ≡ spelling blocks ++ rest → ⊥

-- the bytes that were taken where they begin with no record: the letter, or the whole record, or all of them
abbrev pub taken_behind : Settings → ℕ → Option Letter → List ℕ → ℕ
taken_behind settings t None bytes = 0
taken_behind settings t (Some letter) bytes = record_bytes (layout_of settings t letter) bytes

abbrev pub record_taken : Settings → ℕ → List ℕ → List ℕ
record_taken settings t [] = []
record_taken settings t (byte ∷ bytes) = byte ∷ take (taken_behind settings t (letter_of_byte byte) bytes) bytes

unfoldable pub taken : Settings → ℕ → RecordFault → List ℕ → List ℕ
taken settings t UnknownKind bytes = take 1 bytes
taken settings t WrongKind bytes = take 1 bytes
taken settings t PadBit bytes = record_taken settings t bytes
taken settings t Truncated bytes = bytes

-- a pad bit is 1 in bytes of which so many are the record of slot t
abbrev pub PadBehind : Settings → ℕ → Option Letter → List ℕ → Type 0
PadBehind settings t None bytes = ⊥
PadBehind settings t (Some letter) bytes = RecordHasPad (layout_of settings t letter)
    (take (record_bytes (layout_of settings t letter) bytes) bytes)

unfoldable pub HasPadBit : Settings → ℕ → List ℕ → Type 0
HasPadBit settings t [] = ⊥
HasPadBit settings t (byte ∷ bytes) = PadBehind settings t (letter_of_byte byte) bytes

-- The bytes, those that are told, begin with no record of slot t, and this is why.
pub record BeginsNone (settings : Settings) (t : ℕ) (fault : RecordFault) (old new : Option (List ℕ)) : Type 0 where
  pub bytes : List ℕ
  pub told : AreTold old bytes
  pub some : 0 < length bytes
  pub none : NoneBegins settings t bytes
  pub reason : why settings t bytes ≡ fault
  -- a record is refused for a pad bit only where one is 1
  pub pads : fault ≡ PadBit → HasPadBit settings t bytes
  -- so many bytes were taken
  pub went : Consumes old new (taken settings t fault bytes)

-- the bytes that went are none, or begin with no record of slot t for want of more
abbrev pub TakesPart : Settings → ℕ → Option (List ℕ) → Option (List ℕ) → Type 0
TakesPart settings t old new =
    (part : List ℕ) × Went old new part
    × ((part ≡ []) ⊎ (NoneBegins settings t part × (why settings t part ≡ Truncated)))

-- what reading the record of slot t gives; no pad bit of a record that was read is 1
abbrev pub RecordGives : Settings → ℕ
    → Option (List ℕ) → Option (List ℕ) → Result (Option SlotBlocks) NextFault → Type 0
RecordGives settings t old new (Ok None) = IsAtEnd old × IsAtEnd new × Consumes old new []
RecordGives settings t old new (Ok (Some blocks)) =
    Fits settings t blocks × (HasPadBit settings t (spelling blocks) → ⊥) × Consumes old new (spelling blocks)
RecordGives settings t old new (Err (Source fault)) = TakesPart settings t old new
RecordGives settings t old new (Err (Bad fault)) = BeginsNone settings t fault old new

-- only a fault of the source comes with a cause
abbrev pub RecordRose : ℕ → ℕ → Result (Option SlotBlocks) NextFault → Type 0
RecordRose before now (Ok blocks) = Unit {0}
RecordRose before now (Err (Source fault)) = Rose before now
RecordRose before now (Err (Bad fault)) = Unit {0}

-- the count of ends where bytes are no record: it rises by one exactly where they end
abbrev pub ends_by_fault : RecordFault → ℕ → ℕ
ends_by_fault UnknownKind before = before
ends_by_fault WrongKind before = before
ends_by_fault PadBit before = before
ends_by_fault Truncated before = next_count before

-- the count of ends behind the reading of a record: it rises by one exactly where nothing was left or the record was
-- cut off
abbrev pub ends_by_record : Result (Option SlotBlocks) NextFault → ℕ → ℕ
ends_by_record (Ok None) before = next_count before
ends_by_record (Ok (Some blocks)) before = before
ends_by_record (Err (Source fault)) before = before
ends_by_record (Err (Bad why)) before = ends_by_fault why before

-- blocks that slot t may carry and whose records begin the same bytes are the same
abbrev pub IsUnambiguous : Settings → Type 0
IsUnambiguous settings = (t : ℕ) (x y : SlotBlocks) (u v : List ℕ)
    → Fits settings t x → Fits settings t y → spelling x ++ u ≡ spelling y ++ v → x ≡ y
