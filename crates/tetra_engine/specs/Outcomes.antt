-- How a run over slots ends, for any command that reads its input slot by slot.
use Rattle.std.specs.Prelude.{◌≡◌, ◌⊎◌, ℕ, ◌<◌, ◌≤◌, ◌==◌, List, [], ◌∷◌, ◌++◌, length, take, ⊤, None, Some, MatchBool}
use Rattle.std.specs.Io.KnownBytes.{Appends, IsAtEnd}
use Rattle.std.specs.declared.option.Option.{Option}
use Rattle.tetra_io.specs.Streams.{next_count}
use Rattle.tetra_io.specs.Filling.{AreTold, Went}
use Rattle.tetra_engine.specs.declared.status.Status.{Status}
use Rattle.tetra_engine.specs.declared.status.Status.TheVariants.{Done, Refused, Words, TooLong, Input, Read, Write}
use Rattle.tetra_records.specs.Records.{ends_by_fault}
use Rattle.tetra_records.specs.declared.faults.RecordFault.TheVariants.{Truncated}
use Rattle.tetra_engine.specs.declared.status.End.{End}
use Rattle.tetra_engine.specs.Shapes.{Shape, AreInputs, spellings, outputs, NoInput, IsCut}

-- how a run ends where the cut has these inputs and these bytes are behind it
abbrev pub Closes : {X : Type 0} → Shape X → ℕ → List X → List ℕ → Status → Type 0
Closes shape max xs [] status = status ≡ shape.done xs
Closes shape max xs (b ∷ rest) status =
    MatchBool (length xs == max) (status ≡ TooLong) (shape.Stops xs (b ∷ rest) status)

-- The end of a run over these bytes in which no read and no write failed. Took says which bytes the sink took.
pub record Outcome {X : Type 0} (shape : Shape X) (max : ℕ) (bytes : List ℕ)
    (Took : List ℕ → Type 0) (end : End) : Type 0 where
  pub xs : List X
  pub rest : List ℕ
  pub cut : IsCut shape max bytes xs rest
  pub closes : Closes shape max xs rest end.status
  pub slots : end.slots ≡ length xs
  pub output : Took (outputs shape [] xs)

-- these bytes are none, or begin no input behind these for want of more
abbrev pub IsPart : {X : Type 0} → Shape X → List X → List ℕ → Type 0
IsPart shape before part =
    (part ≡ []) ⊎ (NoInput shape before part × shape.Stops before part (Input (length before) Truncated))

-- the end of a run in which a read failed, over the bytes that came
pub record ReadFront {X : Type 0} (shape : Shape X) (max : ℕ)
    (Took : List ℕ → Type 0) (end : End) (came : List ℕ) : Type 0 where
  pub xs : List X
  pub part : List ℕ
  pub cut : IsCut shape max came xs part
  pub ended : (part ≡ []) ⊎ ((length xs < max) × shape.Stops xs part (Input (length xs) Truncated))
  pub slots : end.slots ≡ length xs
  pub output : Took (outputs shape [] xs)

-- nothing, or a proper front of what is written for the input that came behind xs
abbrev pub IsFrontOfNext : {X : Type 0} → Shape X → ℕ → List X → List ℕ → List ℕ → Type 0
IsFrontOfNext {X} shape max xs rest front =
    (front ≡ []) ⊎ ((x : X) × (more : List ℕ) × (k : ℕ) × (length xs < max) × shape.Fits xs x
    × (rest ≡ shape.spelling x ++ more) × (k < length (shape.out xs x)) × (front ≡ take k (shape.out xs x)))

-- the end of a run over these bytes in which a write or the flush failed
pub record WriteFront {X : Type 0} (shape : Shape X) (max : ℕ) (bytes : List ℕ)
    (Took : List ℕ → Type 0) (end : End) : Type 0 where
  pub xs : List X
  pub rest : List ℕ
  pub front : List ℕ
  pub whole : bytes ≡ spellings shape xs ++ rest
  pub each : AreInputs shape [] xs
  pub few : length xs ≤ max
  pub next : IsFrontOfNext shape max xs rest front
  pub slots : end.slots ≡ length xs
  pub output : Took (outputs shape [] xs ++ front)

-- the bytes that came have P; where bytes were told, these are a front of them
abbrev pub Came : Option (List ℕ) → Option (List ℕ) → (List ℕ → Type 0) → Type 0
Came old new P = (came : List ℕ) × Went old new came × P came

-- the bytes of a source have P: those that are told, and where none are told, some
abbrev pub Over : Option (List ℕ) → (List ℕ → Type 0) → Type 0
Over old P = (bytes : List ℕ) × AreTold old bytes × P bytes

-- what was taken grew by these bytes, where it is told before and after
abbrev pub Grows : Option (List ℕ) → Option (List ℕ) → List ℕ → Type 0
Grows None new bytes = ⊤
Grows (Some xs) None bytes = ⊤
Grows (Some xs) (Some ys) bytes = ys ≡ xs ++ bytes

-- how a run over a shape ends, by its status
abbrev pub EndsBy : {X : Type 0} → Status → Shape X → ℕ
    → Option (List ℕ) → Option (List ℕ) → (List ℕ → Type 0) → End → Type 0
EndsBy Read shape max old new Took end = Came old new (ReadFront shape max Took end)
EndsBy Write shape max old new Took end = Over old (λ bytes. WriteFront shape max bytes Took end)
EndsBy Done shape max old new Took end = Over old (λ bytes. Outcome shape max bytes Took end)
EndsBy (Refused slot count) shape max old new Took end = Over old (λ bytes. Outcome shape max bytes Took end)
EndsBy (Words index why) shape max old new Took end = Over old (λ bytes. Outcome shape max bytes Took end)
EndsBy (Input slot why) shape max old new Took end = Over old (λ bytes. Outcome shape max bytes Took end)
EndsBy TooLong shape max old new Took end = Over old (λ bytes. Outcome shape max bytes Took end)

-- what was taken before the flush: all of it, or after a failed write a front
abbrev pub TookBefore : Status → Option (List ℕ) → Option (List ℕ) → List ℕ → Type 0
TookBefore Write old new bytes = Grows old new bytes
TookBefore Done old new bytes = Appends old new bytes
TookBefore (Refused slot count) old new bytes = Appends old new bytes
TookBefore (Words index why) old new bytes = Appends old new bytes
TookBefore (Input slot why) old new bytes = Appends old new bytes
TookBefore Read old new bytes = Appends old new bytes
TookBefore TooLong old new bytes = Appends old new bytes

-- a status at the end of the input
abbrev pub IsEnd : Status → Type 0
IsEnd Done = Unit {0}
IsEnd (Refused slot count) = Unit {0}
IsEnd (Words index why) = ⊥
IsEnd (Input slot why) = ⊥
IsEnd Read = ⊥
IsEnd Write = ⊥
IsEnd TooLong = ⊥

-- The count of ends of the source of a run: it rose by one where the run met the end of its input, and else not. Where
-- a write or the flush failed it may have met it.
abbrev pub EndsMet : Status → ℕ → ℕ → Type 0
EndsMet Done before now = now ≡ next_count before
EndsMet (Refused slot count) before now = now ≡ next_count before
EndsMet (Words index why) before now = now ≡ before
EndsMet (Input slot why) before now = now ≡ ends_by_fault why before
EndsMet Read before now = now ≡ before
EndsMet Write before now = (now ≡ before) ⊎ (now ≡ next_count before)
EndsMet TooLong before now = now ≡ before

-- A run that reads its input leaves nothing of it where it came to its end, which it met once and never read past.
pub record ReadsOut (status : Status) (rest : Option (List ℕ)) (before now : ℕ) : Type 0 where
  pub left : IsEnd status → IsAtEnd rest
  pub met : EndsMet status before now

-- two runs over the same bytes that meet no fault end alike and write the same
abbrev pub OneEnd : {X : Type 0} → Shape X → Type 0
OneEnd shape = (max : ℕ) (bytes : List ℕ) (end other : End) (written others : List ℕ)
    → Outcome shape max bytes (λ output. output ≡ written) end
    → Outcome shape max bytes (λ output. output ≡ others) other
    → (end ≡ other) × (written ≡ others)
