-- How sources and sinks over memory number their calls and bound them.
use Rattle.std.specs.Prelude.{ℕ, ◌-◌, ◌%◌, min, max, List, [], ◌∷◌, length, slice_index}

-- the least of a length and the bound of a call: the pieces go round, 0 counts as 1, and without pieces there is none
abbrev pub bound_of : List ℕ → ℕ → ℕ → ℕ
bound_of [] call len = len
bound_of (piece ∷ pieces) call len =
    min len (max 1 (slice_index (piece ∷ pieces) ((call - 1) % length (piece ∷ pieces))))
