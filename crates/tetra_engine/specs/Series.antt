-- What a command that reads nothing writes, and how its run ends.
use Rattle.std.specs.Prelude.{◌≡◌, ◌⊎◌, ℕ, ◌<◌, ◌≤◌, List, [], ◌++◌, length, take}
use Rattle.std.specs.List.{flat_map, range_with_len}
use Rattle.tetra_engine.specs.declared.status.End.{End}
use Rattle.tetra_engine.specs.declared.status.Status.{Status}
use Rattle.tetra_engine.specs.declared.status.Status.TheVariants.{Done, Refused, Words, TooLong, Input, Read, Write}

-- So many outputs, each of its number from 0. The first k of them stand for slots k slots.
pub record Series : Type 0 where
  pub count : ℕ
  pub out : ℕ → List ℕ
  pub slots : ℕ → ℕ

-- the first k outputs, one behind the other
abbrev pub first_outputs : Series → ℕ → List ℕ
first_outputs series k = flat_map series.out (range_with_len 0 k)

-- The end of a run in which no write failed. Took says which bytes the sink took.
pub record SeriesOutcome (series : Series) (Took : List ℕ → Type 0) (end : End) : Type 0 where
  pub done : end.status ≡ Done
  pub slots : end.slots ≡ series.slots series.count
  pub output : Took (first_outputs series series.count)

-- nothing, or a proper front of output k
abbrev pub IsFrontOfOutput : Series → ℕ → List ℕ → Type 0
IsFrontOfOutput series k front = (front ≡ [])
    ⊎ ((n : ℕ) × (k < series.count) × (n < length (series.out k)) × (front ≡ take n (series.out k)))

-- the end of a run in which a write or the flush failed
pub record SeriesFront (series : Series) (Took : List ℕ → Type 0) (end : End) : Type 0 where
  pub k : ℕ
  pub front : List ℕ
  pub few : k ≤ series.count
  pub next : IsFrontOfOutput series k front
  pub slots : end.slots ≡ series.slots k
  pub output : Took (first_outputs series k ++ front)

-- how a run ends, by its status
abbrev pub SeriesEnds : Status → Series → (List ℕ → Type 0) → End → Type 0
SeriesEnds Done series Took end = SeriesOutcome series Took end
SeriesEnds Write series Took end = SeriesFront series Took end
SeriesEnds (Refused slot count) series Took end = ⊥
SeriesEnds (Words index why) series Took end = ⊥
SeriesEnds (Input slot why) series Took end = ⊥
SeriesEnds Read series Took end = ⊥
SeriesEnds TooLong series Took end = ⊥
