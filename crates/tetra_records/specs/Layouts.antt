-- How long a record is, by its letter and the bytes behind it, and which of its bits are pad bits.
use Rattle.std.specs.Prelude.{ℕ, ◌≡◌, ◌≢◌, ◌⊎◌, ◌+◌, ◌*◌, ◌/◌, ◌%◌, nat_eq, List, [], ◌∷◌, map, sum, take, drop, slice_index, Bool, false}
use Rattle.tetra_bits.specs.Sums.{bit_number}
use Rattle.tetra_bits.specs.Packed.{bytes_for, HasPad}
use Rattle.tetra_settings.specs.declared.types.Dir.{Dir}
use Rattle.tetra_settings.specs.declared.types.Dir.TheVariants.{Dl, Ul}
use Rattle.tetra_settings.specs.declared.slots.Letter.{Letter}
use Rattle.tetra_settings.specs.declared.slots.Letter.TheVariants.{C}
use Rattle.tetra_settings.specs.declared.blocks.SlotBlocks.{SlotBlocks}
use Rattle.tetra_settings.specs.Blocks.{letter_of, field_bits, HasLengths, FitsAccess}
use Rattle.tetra_records.specs.declared.parsing.Layout.{Layout}

-- the bytes of the AACH
abbrev pub access_bytes : Dir → ℕ
access_bytes Dl = 2
access_bytes Ul = 0

-- the bytes of the mask
abbrev pub mask_bytes : Letter → ℕ
mask_bytes C = 1
mask_bytes letter = 0

-- whether a mask sends the first or the second subslot; a letter without subslots sends none
abbrev pub first_sent : Letter → ℕ → Bool
first_sent C mask = nat_eq (mask / 128 % 2) 1
first_sent letter mask = false

abbrev pub second_sent : Letter → ℕ → Bool
second_sent C mask = nat_eq (mask / 64 % 2) 1
second_sent letter mask = false

-- the mask in the bytes behind a letter; 0 where the letter has none
abbrev pub mask_behind : Letter → ℕ → List ℕ → ℕ
mask_behind C at bytes = slice_index bytes at
mask_behind letter at bytes = 0

abbrev pub mask_in : Layout → List ℕ → ℕ
mask_in layout bytes = mask_behind layout.letter (access_bytes layout.dir) bytes

-- a mask without pad bits that are 1 sends these subslots
abbrev pub IsSent : Letter → ℕ → Bool → Bool → Type 0
IsSent C mask first second = (first ≡ first_sent C mask) × (second ≡ second_sent C mask)
    × (mask ≡ 128 * bit_number first + 64 * bit_number second)
IsSent letter mask first second = (first ≡ false) × (second ≡ false)

-- the bits of each field, by the bytes behind the letter
abbrev pub bits_in : Layout → List ℕ → List ℕ
bits_in layout bytes = field_bits layout.letter layout.mode
    (first_sent layout.letter (mask_in layout bytes)) (second_sent layout.letter (mask_in layout bytes))

-- the bytes in front of the fields
abbrev pub head_bytes : Layout → ℕ
head_bytes layout = access_bytes layout.dir + mask_bytes layout.letter

-- the bytes of fields with so many bits
abbrev pub fields_bytes : List ℕ → ℕ
fields_bytes bits = sum (map bytes_for bits)

-- the bytes of a record behind its letter
unfoldable pub record_bytes : Layout → List ℕ → ℕ
record_bytes layout bytes = head_bytes layout + fields_bytes (bits_in layout bytes)

-- blocks of this layout
pub record IsOf (layout : Layout) (blocks : SlotBlocks) : Type 0 where
  pub letter : letter_of blocks.body ≡ layout.letter
  pub lengths : HasLengths layout.mode blocks.body
  pub access : FitsAccess layout.dir blocks.aach

-- a pad bit of the AACH is 1
abbrev pub AccessHasPad : Dir → List ℕ → Type 0
AccessHasPad Dl bytes = slice_index bytes 1 % 4 ≢ 0
AccessHasPad Ul bytes = ⊥

-- a pad bit of the mask is 1
abbrev pub MaskHasPad : Letter → ℕ → Type 0
MaskHasPad C mask = mask % 64 ≢ 0
MaskHasPad letter mask = ⊥

-- a pad bit of a field is 1
abbrev pub FieldsHavePad : List ℕ → List ℕ → Type 0
FieldsHavePad [] bytes = ⊥
FieldsHavePad (n ∷ ns) bytes = HasPad (take (bytes_for n) bytes) n ⊎ FieldsHavePad ns (drop (bytes_for n) bytes)

-- a pad bit is 1 in the bytes behind a letter
abbrev pub RecordHasPad : Layout → List ℕ → Type 0
RecordHasPad layout bytes =
    AccessHasPad layout.dir bytes ⊎ MaskHasPad layout.letter (mask_in layout bytes)
    ⊎ FieldsHavePad (bits_in layout bytes) (drop (head_bytes layout) bytes)
