-- The bytes of a reading record, read back. Numbers of two bytes have the higher byte first. This project's own.
use Rattle.std.specs.Prelude.{ℕ, ◌+◌, ◌-◌, ◌*◌, Bool, List, length, take, drop, slice_index}
use Rattle.std.specs.List.{list_any, range_with_len}
use Rattle.tetra_bits.specs.Numbered.{numbered}
use Rattle.tetra_bits.specs.Packed.{bytes_for, bit_in, unpacked_bit}

-- the number of two bytes that stands behind k of them
unfoldable pub number_at : List ℕ → ℕ → ℕ
number_at bytes k = 256 * slice_index bytes (2 * k) + slice_index bytes (2 * k + 1)

-- the first len bits of bytes
unfoldable pub claimed_bits : List ℕ → ℕ → List Bool
claimed_bits bytes len = numbered (unpacked_bit bytes) len

-- whether a bit behind them is 1
unfoldable pub has_pad : List ℕ → ℕ → Bool
has_pad bytes len = list_any (bit_in bytes) (range_with_len len (8 * length bytes - len))

-- potential j of row i of a table, both counted from 1
unfoldable pub claimed_entry : List ℕ → ℕ → ℕ → ℕ
claimed_entry bytes i j = number_at bytes (16 * (i - 1) + (j - 1))

unfoldable pub claimed_row : List ℕ → ℕ → List ℕ
claimed_row bytes i = numbered (claimed_entry bytes i) 16

-- a table of so many rows of 16
unfoldable pub claimed_table : List ℕ → ℕ → List (List ℕ)
claimed_table bytes rows = numbered (claimed_row bytes) rows

-- the bytes of a field: its mark, its metric, the packed bits, of which there are len, and what is behind them
abbrev pub mark_part : List ℕ → ℕ
mark_part bytes = slice_index bytes 0

abbrev pub metric_part : List ℕ → ℕ
metric_part bytes = 256 * slice_index bytes 1 + slice_index bytes 2

abbrev pub bits_part : ℕ → List ℕ → List ℕ
bits_part len bytes = take (bytes_for len) (drop 3 bytes)

abbrev pub table_part : ℕ → List ℕ → List ℕ
table_part len bytes = drop (3 + bytes_for len) bytes
