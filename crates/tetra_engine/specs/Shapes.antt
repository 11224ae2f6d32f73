-- What a command reads and writes slot by slot, and where the bytes that it reads are cut.
use Rattle.std.specs.Prelude.{◌≡◌, ℕ, ◌<◌, ◌≤◌, List, [], ◌∷◌, ◌++◌, length}
use Rattle.tetra_engine.specs.declared.status.Status.{Status}

-- What a command reads and writes. Inputs stand behind those of the slots before them, which are a list.
pub record Shape (X : Type 0) : Type 1 where
  -- the inputs that may come behind these
  pub Fits : List X → X → Type 0
  -- the bytes of an input
  pub spelling : X → List ℕ
  -- how a run ends where bytes, at least one, begin no input behind these
  pub Stops : List X → List ℕ → Status → Type 0
  -- what is written for an input behind these
  pub out : List X → X → List ℕ
  -- how a run ends behind these, where no bytes are left
  pub done : List X → Status

-- these may come behind those before them
abbrev pub AreInputs : {X : Type 0} → Shape X → List X → List X → Type 0
AreInputs shape before [] = Unit {0}
AreInputs shape before (x ∷ xs) = shape.Fits before x × AreInputs shape (before ++ x ∷ []) xs

-- their bytes, one behind the other
abbrev pub spellings : {X : Type 0} → Shape X → List X → List ℕ
spellings shape [] = []
spellings shape (x ∷ xs) = shape.spelling x ++ spellings shape xs

-- what is written for them behind those before them, one behind the other
abbrev pub outputs : {X : Type 0} → Shape X → List X → List X → List ℕ
outputs shape before [] = []
outputs shape before (x ∷ xs) = shape.out before x ++ outputs shape (before ++ x ∷ []) xs

-- no front of the bytes is an input behind these
abbrev pub NoInput : {X : Type 0} → Shape X → List X → List ℕ → Type 0
NoInput {X} shape before bytes = (x : X) (rest : List ℕ) → shape.Fits before x → bytes ≡ shape.spelling x ++ rest → ⊥

-- The cut of the bytes: their longest front that is inputs of slots 0, 1, 2 and so on, at most max of them,
-- and the bytes behind it.
pub record IsCut {X : Type 0} (shape : Shape X) (max : ℕ) (bytes : List ℕ) (xs : List X) (rest : List ℕ) : Type 0 where
  pub whole : bytes ≡ spellings shape xs ++ rest
  pub each : AreInputs shape [] xs
  pub few : length xs ≤ max
  pub longest : length xs < max → NoInput shape xs rest

-- Inputs behind the same inputs whose spellings begin the same bytes are the same.
abbrev pub IsUnambiguous : {X : Type 0} → Shape X → Type 0
IsUnambiguous {X} shape = (before : List X) (x y : X) (u v : List ℕ)
    → shape.Fits before x → shape.Fits before y → shape.spelling x ++ u ≡ shape.spelling y ++ v → x ≡ y

-- Bytes that begin no input end a run in one way.
abbrev pub IsDecided : {X : Type 0} → Shape X → Type 0
IsDecided {X} shape = (before : List X) (bytes : List ℕ) (s t : Status)
    → shape.Stops before bytes s → shape.Stops before bytes t → s ≡ t

-- there is one cut of the bytes
abbrev pub OneCut : {X : Type 0} → Shape X → Type 0
OneCut {X} shape = (max : ℕ) (bytes : List ℕ) (xs ys : List X) (u v : List ℕ)
    → IsCut shape max bytes xs u → IsCut shape max bytes ys v → (xs ≡ ys) × (u ≡ v)
