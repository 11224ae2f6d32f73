-- The matrix of speech. This project's own: entries are written by rows into a matrix and read by columns.
use Rattle.std.specs.Prelude.{ℕ, ◌+◌, ◌-◌, ◌*◌, ◌/◌, ◌%◌}

-- the place of entry i in a matrix of rows and columns
unfoldable pub matrix_place : ℕ → ℕ → ℕ → ℕ
matrix_place rows cols i = rows * ((i - 1) % cols) + (i - 1) / cols + 1
