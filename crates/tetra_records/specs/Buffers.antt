-- What was read into a buffer of the bytes behind a letter.
use Rattle.std.specs.Prelude.{ℕ, ◌≡◌, ◌<◌, ◌≤◌, List, length, take, Ok, Err, Result}
use Rattle.std.specs.Io.KnownBytes.{Consumes}
use Rattle.std.specs.declared.option.Option.{Option}
use Rattle.tetra_io.specs.Streams.{Rose, next_count}
use Rattle.tetra_io.specs.Filling.{AreTold, Went}
use Rattle.tetra_records.specs.declared.faults.RecordFault.TheVariants.{Truncated}
use Rattle.tetra_records.specs.declared.faults.NextFault.{NextFault}
use Rattle.tetra_records.specs.declared.faults.NextFault.TheVariants.{Source, Bad}
use Rattle.tetra_records.specs.declared.parsing.Layout.{Layout}
use Rattle.tetra_records.specs.Layouts.{head_bytes, record_bytes}

-- fewer bytes than the record has went
abbrev pub TakesLess : Layout → Option (List ℕ) → Option (List ℕ) → Type 0
TakesLess layout old new = (part : List ℕ) × (length part < record_bytes layout part) × Went old new part

-- the bytes are fewer than the record has, and all went
abbrev pub EndsShort : Layout → Option (List ℕ) → Option (List ℕ) → Type 0
EndsShort layout old new =
    (bytes : List ℕ) × AreTold old bytes × (length bytes < record_bytes layout bytes) × Consumes old new bytes

-- the front of the buffer holds the bytes behind a letter; or they end before, or a read failed
abbrev pub BehindGives : Layout → Option (List ℕ) → Option (List ℕ)
    → Result ℕ NextFault → List ℕ → Type 0
BehindGives layout old new (Ok n) buf =
    (head_bytes layout ≤ n) × (n ≤ 88) × (n ≡ record_bytes layout (take n buf)) × Consumes old new (take n buf)
BehindGives layout old new (Err (Source fault)) buf = TakesLess layout old new
BehindGives layout old new (Err (Bad fault)) buf = (fault ≡ Truncated) × EndsShort layout old new

-- only a fault of the source comes with a cause
abbrev pub BehindRose : ℕ → ℕ → Result ℕ NextFault → Type 0
BehindRose before now (Ok n) = Unit {0}
BehindRose before now (Err (Source fault)) = Rose before now
BehindRose before now (Err (Bad fault)) = Unit {0}

-- the count of ends: it rises by one exactly where the bytes end before the record
abbrev pub ends_behind_letter : Result ℕ NextFault → ℕ → ℕ
ends_behind_letter (Ok n) before = before
ends_behind_letter (Err (Source fault)) before = before
ends_behind_letter (Err (Bad fault)) before = next_count before
