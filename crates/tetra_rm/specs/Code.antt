-- The access code over any rows: 14 message bits, followed by 16 further bits. This project's own.
use Prim.Native.Nat.{zero, suc}
use Rattle.std.specs.Prelude.{◌≡◌, ℕ, Bool, cond, bit_xor, ℤ, List, ◌++◌, length, slice_index}
use Rattle.tetra_bits.specs.Cost.{metric}
use Rattle.tetra_bits.specs.Digits.{digits}
use Rattle.tetra_bits.specs.Least.{best}
use Rattle.tetra_bits.specs.Order.{bit_at}
use Rattle.tetra_bits.specs.Undamaged.{IsUndamaged}

-- row r, counted from 0, where message bit r is 1, and 0 where it is not
unfoldable pub row_part : List ℕ → List Bool → ℕ → ℕ
row_part rows message r = cond (bit_at message r) (slice_index rows r) 0

-- the sum modulo 2 of those of the first n rows whose message bit is 1
unfoldable pub rows_sum : List ℕ → List Bool → ℕ → ℕ
rows_sum rows message zero = 0
rows_sum rows message (suc n) = bit_xor (rows_sum rows message n) (row_part rows message n)

-- the word of a message: the message, followed by the 16 bits of the sum of the rows whose message bit is 1
unfoldable pub access_word : List ℕ → List Bool → List Bool
access_word rows message = message ++ digits 16 (rows_sum rows message 14)

-- the metric of the word of a message
unfoldable pub access_metric : List ℕ → List ℤ → List Bool → ℕ
access_metric rows soft message = metric soft (access_word rows message)

-- the first-least message
unfoldable pub best_access : List ℕ → List ℤ → List Bool
best_access rows soft = best 14 (access_metric rows soft)

-- different messages have different words, as the message bits stand first
abbrev pub WordsDiffer : Type 0
WordsDiffer = (rows : List ℕ) (message other : List Bool) → length message ≡ length other
    → access_word rows message ≡ access_word rows other → message ≡ other

-- values with the signs of a word are read as its message, which costs nothing
abbrev pub UndamagedArrives : Type 0
UndamagedArrives = (rows : List ℕ) (message : List Bool) (soft : List ℤ) → length message ≡ 14
    → IsUndamaged (access_word rows message) soft
    → (best_access rows soft ≡ message) × (access_metric rows soft message ≡ 0)
