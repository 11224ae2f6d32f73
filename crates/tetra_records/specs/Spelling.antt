-- How blocks are spelled: the letter, on the downlink the AACH, of C the mask, and the fields, each packed. This
-- project's own.
use Rattle.std.specs.Prelude.{ℕ, ◌+◌, ◌*◌, ◌/◌, ◌%◌, List, [], ◌∷◌, ◌++◌, map, Bool, is_some, None, Some}
use Rattle.std.specs.List.{concat}
use Rattle.std.specs.declared.option.Option.{Option}
use Rattle.tetra_bits.specs.Packed.{packed}
use Rattle.tetra_bits.specs.Sums.{bit_number}
use Rattle.tetra_settings.specs.declared.blocks.Body.{Body}
use Rattle.tetra_settings.specs.declared.blocks.Body.TheVariants.{Control}
use Rattle.tetra_settings.specs.declared.blocks.SlotBlocks.{SlotBlocks}
use Rattle.tetra_settings.specs.Slots.{byte_of}
use Rattle.tetra_settings.specs.Blocks.{letter_of, fields_of}

-- the 14 bits of an AACH, and two pad bits
abbrev pub access_spelling : Option ℕ → List ℕ
access_spelling None = []
access_spelling (Some message) = message / 64 ∷ message % 64 * 4 ∷ []

-- which subslots are sent, the first highest, and six pad bits
abbrev pub mask_spelling : Body → List ℕ
mask_spelling (Control first second) = (128 * bit_number (is_some first) + 64 * bit_number (is_some second)) ∷ []
mask_spelling body = []

-- the fields in their order, each packed
abbrev pub fields_spelling : List (List Bool) → List ℕ
fields_spelling fields = concat (map packed fields)

-- what is behind the letter
unfoldable pub behind_letter : SlotBlocks → List ℕ
behind_letter blocks =
    access_spelling blocks.aach ++ mask_spelling blocks.body ++ fields_spelling (fields_of blocks.body)

-- the record of blocks
unfoldable pub spelling : SlotBlocks → List ℕ
spelling blocks = byte_of (letter_of blocks.body) ∷ behind_letter blocks
