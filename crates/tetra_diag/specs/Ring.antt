-- Rings: the last n entries of a list in fixed places, each new one in place of the oldest.
use Rattle.std.specs.Prelude.{ℕ, ◌+◌, ◌-◌, ◌%◌, ◌<◌, ◌≤◌, ◌≡◌, ◌⊎◌, List, [], ◌∷◌, ◌++◌, length, take, drop, slice_set, cond, nat_lt}

-- the entries from the oldest on
abbrev pub turned : {X : Type 0} → ℕ → List X → List X
turned oldest items = drop oldest items ++ take oldest items

-- a ring of n: before it is full, the oldest stands first
pub record IsRing {X : Type 0} (n oldest : ℕ) (items : List X) : Type 0 where
  pub low : oldest < n
  pub few : length items ≤ n
  pub straight : length items < n → oldest ≡ 0

-- one more entry, in place of the oldest where there is no room
abbrev pub Puts : {X : Type 0} → ℕ → ℕ → List X → X → ℕ → List X → Type 0
Puts n oldest old item next new =
    ((length old < n) × (new ≡ old ++ item ∷ []) × (next ≡ oldest))
    ⊎ ((n ≤ length old) × (new ≡ slice_set old oldest item) × (next ≡ (oldest + 1) % n))

-- where entry i from the oldest on stands
abbrev pub place : ℕ → ℕ → ℕ → ℕ
place oldest i len = cond (nat_lt (oldest + i) len) (oldest + i) (oldest + i - len)
