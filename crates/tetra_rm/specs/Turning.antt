-- One bit of a message turned, and what it does to the word.
use Rattle.std.specs.Prelude.{ℕ, ◌-◌, ◌/◌, ◌%◌, ◌^◌, Bool, not, bit_xor, List, nat_lt, nat_eq, slice_index, slice_set, if◌then◌else◌}
use Rattle.tetra_bits.specs.Digits.{digit}
use Rattle.tetra_bits.specs.Order.{bit_at}

-- the message with one bit turned, which counts from 1
unfoldable pub turned_message : List Bool → ℕ → List Bool
turned_message message bit = slice_set message (bit - 1) (not (bit_at message (bit - 1)))

-- whether place k of the word, counted from 0, changes with this bit: the bit itself, and those of its row that are 1
unfoldable pub is_changed : List ℕ → ℕ → ℕ → Bool
is_changed rows bit k = if nat_lt k 14 then nat_eq k (bit - 1) else digit 16 (slice_index rows (bit - 1)) (k - 13)

-- the bit of a number whose place value is 2 ^ i
abbrev pub bit_at_place : ℕ → ℕ → ℕ
bit_at_place number i = number / 2 ^ i % 2

-- the message after so many steps of the walk: each differs from the one before in one bit
unfoldable pub walk_message : ℕ → ℕ
walk_message steps = bit_xor steps (steps / 2)
