-- The rows of the access code, this project's own. Row r, of 16 bits, stands for message bit r of 14.
use Rattle.std.specs.Prelude.{ℕ, ◌+◌, ◌-◌, ◌*◌, ◌%◌, count_ones}
use Rattle.tetra_bits.specs.Numbered.{numbered}
use Rattle.tetra_bits.specs.Polynomials.{power_rest}
use Rattle.tetra_rm.specs.declared.table.Rows.{Rows}

-- X^15 + X^11 + X^10 + X^9 + X^8 + X^7 + X^5 + X^3 + X^2 + X + 1: bit i of the number is the coefficient of X^i
unfoldable pub generator : ℕ
generator = 0b1000_1111_1010_1111

-- the bit that gives a message bit and fifteen bits behind it an even number of ones
unfoldable pub overall : ℕ → ℕ
overall rest = (1 + count_ones rest) % 2

-- row r: the rest of X^(14 - r) X^15, the highest coefficient first, then the overall bit
unfoldable pub row : ℕ → ℕ
row r = 2 * power_rest 15 generator (14 - r + 15) + overall (power_rest 15 generator (14 - r + 15))

-- all rows
unfoldable pub access_rows : Rows
access_rows = record { 0 = numbered row 14 }
