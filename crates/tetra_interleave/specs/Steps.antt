-- Steps of one size through a list.
use Rattle.std.specs.Prelude.{ℕ, ◌+◌, ◌-◌, ◌*◌, ◌%◌, ◌<◌, ◌≡◌, List, slice_index_or}

-- the entry that step j comes to from place from on, by places at a time modulo k. Steps count from 1, places from 0
unfoldable pub step_entry : {X : Type 0} → X → ℕ → ℕ → ℕ → List X → ℕ → X
step_entry d k from by x j = slice_index_or x ((from + by * (j - 1)) % k) d

-- the first n entries of x stand twice, k places apart
abbrev pub IsTwice : {X : Type 0} → X → ℕ → ℕ → List X → List X → Type 0
IsTwice d k n x twice =
    (i : ℕ) → i < n → (slice_index_or twice i d ≡ slice_index_or x i d) × (slice_index_or twice (i + k) d ≡ slice_index_or x i d)
