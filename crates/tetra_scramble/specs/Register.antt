-- A register of the last 32 bits of a key, and bits of a key that are written from it.
use Rattle.std.specs.Prelude.{◌≡◌, ℕ, ◌+◌, ◌-◌, ◌<◌, Bool, List}
use Rattle.tetra_bits.specs.Digits.{digit}
use Rattle.tetra_bits.specs.Order.{bit_at}
use Rattle.tetra_scramble.specs.Key.{past, key_bit}

-- a register holds p(n), p(n - 1) and so on down to p(n - 31), p(n) at its top
abbrev pub HoldsLast : List Bool → ℕ → ℕ → Type 0
HoldsLast e n register = (i : ℕ) → i < 32 → digit 32 register (i + 1) ≡ bit_at (past e n) i

-- the first n bits of the key of e stand at the head of a list
abbrev pub IsWritten : List Bool → ℕ → List Bool → Type 0
IsWritten e n bits = (k : ℕ) → k < n → bit_at bits k ≡ key_bit e (k + 1)

-- p(n + 1), p(n + 2) and so on up to p(n + 16) are the lowest sixteen bits of a number, the lowest first
abbrev pub AreNext : List Bool → ℕ → ℕ → Type 0
AreNext e n number = (j : ℕ) → j < 16 → digit 32 number (32 - j) ≡ key_bit e (n + j + 1)
