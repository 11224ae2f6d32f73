-- Lists whose entries are put at other places, as every interleaver does. Entries and places are numbered from 1; d is
-- what stands behind the end of a list.
use Prim.Native.Nat.{zero, suc}
use Rattle.std.specs.Prelude.{ℕ, ◌-◌, ◌≤◌, ◌≡◌, nat_eq, cond, List, length, slice_index_or}
use Rattle.tetra_bits.specs.Numbered.{numbered}

-- each of n entries has one of n places, no two have the same, and no place is left empty
pub record IsOneToOne (n : ℕ) (place : ℕ → ℕ) : Type 0 where
  pub within : (i : ℕ) → 1 ≤ i → i ≤ n → (1 ≤ place i) × (place i ≤ n)
  pub apart : (i k : ℕ) → 1 ≤ i → i ≤ n → 1 ≤ k → k ≤ n → place i ≡ place k → i ≡ k
  pub filled : (j : ℕ) → 1 ≤ j → j ≤ n → (i : ℕ) × (1 ≤ i) × (i ≤ n) × (place i ≡ j)

-- y has entry i of x at place i, for each of n entries
pub record IsPlaced {X : Type 0} (d : X) (n : ℕ) (place : ℕ → ℕ) (x y : List X) : Type 0 where
  pub size : length y ≡ length x
  pub entries : (i : ℕ) → 1 ≤ i → i ≤ n → slice_index_or y (place i - 1) d ≡ slice_index_or x (i - 1) d

-- the entry of x that goes to place j, among entries 1 to m
unfoldable pub entry_for : {X : Type 0} → X → (ℕ → ℕ) → List X → ℕ → ℕ → X
entry_for d place x zero j = d
entry_for d place x (suc m) j = cond (nat_eq (place (suc m)) j) (slice_index_or x m d) (entry_for d place x m j)

-- the entries of x at their places
unfoldable pub placed : {X : Type 0} → X → ℕ → (ℕ → ℕ) → List X → List X
placed d n place x = numbered (entry_for d place x n) n

-- the entry of y that stands at the place of entry i
unfoldable pub entry_from : {X : Type 0} → X → (ℕ → ℕ) → List X → ℕ → X
entry_from d place y i = slice_index_or y (place i - 1) d

-- the list whose entries stand in y at their places
unfoldable pub taken : {X : Type 0} → X → ℕ → (ℕ → ℕ) → List X → List X
taken d n place y = numbered (entry_from d place y) n
