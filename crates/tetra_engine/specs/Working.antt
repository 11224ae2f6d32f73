-- What a work over any shape reads, and what it has done so far.
use Rattle.std.specs.Prelude.{◌≡◌, ℕ, ◌<◌, ◌≤◌, List, [], length, Ok, Err, Result}
use Rattle.std.specs.Io.KnownBytes.{Consumes, Appends, IsAtEnd}
use Rattle.std.specs.declared.option.Option.{Option}
use Rattle.tetra_io.specs.Streams.{Rose, next_count}
use Rattle.tetra_io.specs.Filling.{TakesFewer}
use Rattle.tetra_records.specs.Records.{ends_by_fault}
use Rattle.tetra_engine.specs.declared.status.Status.{Status}
use Rattle.tetra_engine.specs.declared.status.Status.TheVariants.{Input, Read, TooLong}
use Rattle.tetra_engine.specs.declared.status.End.{End as EndRecord}
use Rattle.tetra_engine.specs.declared.work.Stop.{Stop}
use Rattle.tetra_engine.specs.declared.work.Stop.TheVariants.{End, Bad, More, Fault}
use Rattle.tetra_engine.specs.Shapes.{Shape, AreInputs, spellings, outputs, NoInput}
use Rattle.tetra_engine.specs.Outcomes.{Over, Came, IsPart}

-- the bytes, at least one, begin no input behind these, and a run ends so
abbrev pub NoneBegins : {X : Type 0} → Shape X → List X → Option (List ℕ) → Status → Type 0
NoneBegins shape before old status =
    Over old (λ bytes. (0 < length bytes) × NoInput shape before bytes × shape.Stops before bytes status)

-- the bytes that went are part of an input behind these
abbrev pub TakesPart : {X : Type 0} → Shape X → List X → Option (List ℕ) → Option (List ℕ) → Type 0
TakesPart shape before old new = Came old new (IsPart shape before)

-- what it says that no input came behind these; Stands says that the work has not moved on
abbrev pub StopGives : {X : Type 0} → Shape X → List X
    → Option (List ℕ) → Option (List ℕ) → Type 0 → Stop → Type 0
StopGives shape before old new Stands End = Stands × IsAtEnd old × IsAtEnd new
StopGives shape before old new Stands (Bad why) = NoneBegins shape before old (Input (length before) why)
StopGives shape before old new Stands More = ⊥
StopGives shape before old new Stands Fault = TakesPart shape before old new

-- what reading an input behind these gives; Holds says that the work holds it
abbrev pub ReadGives : {X : Type 0} → Shape X → List X
    → Option (List ℕ) → Option (List ℕ) → (X → Type 0) → Type 0 → Result (Unit {0}) Stop → Type 0
ReadGives {X} shape before old new Holds Stands (Ok u) =
    (x : X) × Holds x × shape.Fits before x × Consumes old new (shape.spelling x)
ReadGives shape before old new Holds Stands (Err stop) = StopGives shape before old new Stands stop

-- what stands behind the last slot that may be read
abbrev pub PastGives : Option (List ℕ) → Option (List ℕ) → Stop → Type 0
PastGives old new End = IsAtEnd old × IsAtEnd new
PastGives old new More = (byte : List ℕ) × (length byte ≡ 1) × Consumes old new byte
PastGives old new Fault = TakesFewer old new 1
PastGives old new (Bad why) = ⊥

-- a failed read has its cause
abbrev pub StopRose : ℕ → ℕ → Stop → Type 0
StopRose before now Fault = Rose before now
StopRose before now End = Unit {0}
StopRose before now (Bad why) = Unit {0}
StopRose before now More = Unit {0}

abbrev pub ReadRose : ℕ → ℕ → Result (Unit {0}) Stop → Type 0
ReadRose before now (Ok u) = Unit {0}
ReadRose before now (Err stop) = StopRose before now stop

-- the count of ends behind a stop: it rises by one exactly where the input ended
abbrev pub ends_by_stop : Stop → ℕ → ℕ
ends_by_stop End before = next_count before
ends_by_stop (Bad why) before = ends_by_fault why before
ends_by_stop More before = before
ends_by_stop Fault before = before

abbrev pub ends_by_input : Result (Unit {0}) Stop → ℕ → ℕ
ends_by_input (Ok u) before = before
ends_by_input (Err stop) before = ends_by_stop stop before

-- the end of a run, by why no input came and the status at the end of the input
abbrev pub end_by : Stop → Status → ℕ → EndRecord
end_by End status slots = record { status = status; slots = slots }
end_by (Bad why) status slots = record { status = Input slots why; slots = slots }
end_by More status slots = record { status = TooLong; slots = slots }
end_by Fault status slots = record { status = Read; slots = slots }

-- inputs were read and their outputs written
pub record Ran {X : Type 0} (shape : Shape X) (max slots : ℕ) (xs : List X)
    (rest0 rest1 taken0 taken1 : Option (List ℕ)) : Type 0 where
  pub slots_is : slots ≡ length xs
  pub few : length xs ≤ max
  pub each : AreInputs shape [] xs
  pub came : Consumes rest0 rest1 (spellings shape xs)
  pub wrote : Appends taken0 taken1 (outputs shape [] xs)

-- some inputs were read and written, and the work stands for them
pub record Driven {W X : Type 0} (Stands : W → List X → Type 0) (shape : Shape X) (work : W)
    (Same : Type 0) (max slots : ℕ) (rest0 rest1 taken0 taken1 : Option (List ℕ))
    (src0 src1 sink0 sink1 ends0 ends1 : ℕ) : Type 0 where
  pub xs : List X
  pub stands : Stands work xs
  pub settings : Same
  pub ran : Ran shape max slots xs rest0 rest1 taken0 taken1
  pub src_later : src0 ≤ src1
  pub sink_later : sink0 ≤ sink1
  pub not_ended : ends1 ≡ ends0
