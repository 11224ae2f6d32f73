-- The generators, as the exponents of D.
use Rattle.std.specs.Prelude.{ℕ, Bool, false, List, [], ◌∷◌, ◌||◌, ◌-◌, nat_eq, slice_index_or}

-- whether a list has a number
abbrev pub has : List ℕ → ℕ → Bool
has [] n = false
has (x ∷ xs) n = nat_eq n x || has xs n

-- whether generator i, counted from 1, has the term D^j
abbrev pub taps_of : List (List ℕ) → ℕ → ℕ → Bool
taps_of generators i j = has (slice_index_or generators (i - 1) []) j

-- EN 300 392-2 clause 8.2.3: 1+D+D^4, 1+D^2+D^3+D^4, 1+D+D^2+D^4 and 1+D+D^3+D^4
abbrev pub quarter_generators : List (List ℕ)
quarter_generators = (0 ∷ 1 ∷ 4 ∷ []) ∷ (0 ∷ 2 ∷ 3 ∷ 4 ∷ []) ∷ (0 ∷ 1 ∷ 2 ∷ 4 ∷ []) ∷ (0 ∷ 1 ∷ 3 ∷ 4 ∷ []) ∷ []

abbrev pub quarter : ℕ → ℕ → Bool
quarter i j = taps_of quarter_generators i j

-- the mother code of speech (this project's own numbers, after EN 300 395-2 clause 5): 1+D+D^2+D^3+D^4, 1+D+D^3+D^4
-- and 1+D^2+D^4
abbrev pub third_generators : List (List ℕ)
third_generators = (0 ∷ 1 ∷ 2 ∷ 3 ∷ 4 ∷ []) ∷ (0 ∷ 1 ∷ 3 ∷ 4 ∷ []) ∷ (0 ∷ 2 ∷ 4 ∷ []) ∷ []

abbrev pub third : ℕ → ℕ → Bool
third i j = taps_of third_generators i j
