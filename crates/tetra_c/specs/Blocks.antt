-- The blocks of a slot as C has them, and when a slot may carry them.
use Rattle.std.specs.Prelude.{ℕ, ◌≤◌, Bool, List, [], None, Some, take, slice_index, slice_index_or, unwrap_or, nat_eq, nat_le, nat_lt, not, ◌&&◌, if◌then◌else◌}
use Rattle.std.specs.declared.option.Option.{Option}
use Rattle.tetra_settings.specs.Blocks.{field_bits, body_of}
use Rattle.tetra_settings.specs.Slots.{is_allowed, letter_of_byte, mode_of, use_of}
use Rattle.tetra_settings.specs.declared.types.Dir.{Dir}
use Rattle.tetra_settings.specs.declared.types.Dir.TheVariants.{Dl, Ul}
use Rattle.tetra_settings.specs.declared.types.Settings.{Settings}
use Rattle.tetra_settings.specs.declared.slots.Letter.{Letter}
use Rattle.tetra_settings.specs.declared.slots.Letter.TheVariants.{F}
use Rattle.tetra_settings.specs.declared.blocks.SlotBlocks.{SlotBlocks}
use Rattle.tetra_c.specs.Bytes.{is_bit, are_bits, is_one, bits_of}
use Rattle.tetra_c.specs.declared.blocks.TetraBlocks.{TetraBlocks}
use Rattle.tetra_c.specs.declared.fault.Fault.{Fault}
use Rattle.tetra_c.specs.declared.fault.Fault.TheVariants.{Length, Bit, Misfit}

-- no field is longer than 432 bits
abbrev pub are_short : TetraBlocks → Bool
are_short blocks =
    nat_le (slice_index blocks.bits 0) 432 && nat_le (slice_index blocks.bits 1) 432 && nat_le (slice_index blocks.bits 2) 432

abbrev pub AreShort : TetraBlocks → Type 0
AreShort blocks = (k : ℕ) → slice_index blocks.bits k ≤ 432

-- the bytes of field k, counted from 0
abbrev pub front : TetraBlocks → ℕ → List ℕ
front blocks k = take (slice_index blocks.bits k) (slice_index_or blocks.fields k [])

abbrev pub field : TetraBlocks → ℕ → List Bool
field blocks k = bits_of (front blocks k)

-- each byte that stands for a bit is 0 or 1
abbrev pub are_read : TetraBlocks → Bool
are_read blocks =
    is_bit blocks.sends_first && is_bit blocks.sends_second && are_bits (front blocks 0) && are_bits (front blocks 1)
    && are_bits (front blocks 2)

-- why blocks are refused in each slot
abbrev pub fields_fault : TetraBlocks → Option Fault
fields_fault blocks = if not (are_short blocks) then Some Length else (if not (are_read blocks) then Some Bit else None)

-- the fields have these lengths
abbrev pub has_lengths : TetraBlocks → List ℕ → Bool
has_lengths blocks lengths =
    nat_eq (slice_index blocks.bits 0) (slice_index lengths 0) && nat_eq (slice_index blocks.bits 1) (slice_index lengths 1)
    && nat_eq (slice_index blocks.bits 2) (slice_index lengths 2)

-- the message of the access field is one on the downlink, and 0 on the uplink
abbrev pub has_access : Dir → ℕ → Bool
has_access Dl message = nat_lt message 16384
has_access Ul message = nat_eq message 0

-- slot t allows the letter, the fields have the lengths of its table, and the direction has the access message
abbrev pub may_carry : Settings → ℕ → TetraBlocks → Letter → Bool
may_carry settings t blocks letter =
    is_allowed settings.dir (use_of settings t) letter
    && has_lengths blocks (field_bits letter (mode_of settings t) (is_one blocks.sends_first) (is_one blocks.sends_second))
    && has_access settings.dir blocks.aach

abbrev pub misfit_under : Settings → ℕ → TetraBlocks → Option Letter → Option Fault
misfit_under settings t blocks None = Some Misfit
misfit_under settings t blocks (Some letter) = if may_carry settings t blocks letter then None else Some Misfit

-- why slot t may not carry the blocks
abbrev pub misfit : Settings → ℕ → TetraBlocks → Option Fault
misfit settings t blocks = misfit_under settings t blocks (letter_of_byte blocks.letter)

abbrev pub access_of : Dir → ℕ → Option ℕ
access_of Dl message = Some message
access_of Ul message = None

-- the blocks under a letter
abbrev pub blocks_under : Dir → TetraBlocks → Letter → SlotBlocks
blocks_under dir blocks letter =
    record {
      aach = access_of dir blocks.aach;
      body = body_of letter (is_one blocks.sends_first) (is_one blocks.sends_second) (field blocks 0) (field blocks 1) (field blocks 2);
    }

-- the blocks in a direction; where the byte is no letter, they are refused
abbrev pub blocks_of : Dir → TetraBlocks → SlotBlocks
blocks_of dir blocks = blocks_under dir blocks (unwrap_or (letter_of_byte blocks.letter) F)
