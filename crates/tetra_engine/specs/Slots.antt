-- The bytes of a slot, and the values that they stand for: this project's own.
use Rattle.std.specs.Prelude.{ℕ, ◌-◌, ℤ, pos, negsuc, List, map}
use Rattle.tetra_bits.specs.Soft.{soft_value}

-- the soft values of the bytes of a slot
abbrev pub soft_values : List ℕ → List ℤ
soft_values bytes = map soft_value bytes

-- the byte that a value is written as, its two's complement
abbrev pub value_byte : ℤ → ℕ
value_byte (pos n) = n
value_byte (negsuc n) = 255 - n

-- the bytes that the values of a slot are written as
abbrev pub slot_bytes : List ℤ → List ℕ
slot_bytes values = map value_byte values
