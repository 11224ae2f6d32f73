-- What a source has left, what a sink took, and how their counts of faults move.
use Rattle.std.specs.Prelude.{◌≡◌, ℕ, ◌+◌, ◌-◌, ◌^◌, ◌<◌, ◌≤◌, min, List, length, take, ⊤, None, Some, Bool, true, false, Ok, Err, Result, OnErr, MatchResult, if◌then◌else◌, nat_eq, nat_lt, ◌&&◌}
use Rattle.std.specs.Io.KnownBytes.{Consumes, Appends, IsAtEnd}
use Rattle.std.specs.declared.option.Option.{Option}

-- the count behind a count, which stays at its last value
abbrev pub next_count : ℕ → ℕ
next_count count = min (count + 1) (2 ^ 64 - 1)

-- a count rose, or stands at its last value
abbrev pub Rose : ℕ → ℕ → Type 0
Rose before now = next_count before ≤ now

-- a count never falls, and an error comes only where it rose
pub record HasCause {T E : Type 0} (before now : ℕ) (result : Result T E) : Type 0 where
  pub later : before ≤ now
  pub failed : OnErr result (Rose before now)

-- a count that rises by one exactly at an error
abbrev pub count_behind : {T E : Type 0} → Result T E → ℕ → ℕ
count_behind (Ok value) before = before
count_behind (Err fault) before = next_count before

-- A count of ends behind a read of n bytes into a buffer of so many: it rises by one exactly where there was room and
-- nothing came. It is kept in 64 bits, and so it stays at its last value, as a count of faults does.
abbrev pub ends_behind : ℕ → ℕ → ℕ → ℕ
ends_behind n room before = if nat_eq n 0 && nat_lt 0 room then next_count before else before

abbrev pub ends_by_read : {E : Type 0} → Result ℕ E → ℕ → ℕ → ℕ
ends_by_read (Ok n) room before = ends_behind n room before
ends_by_read (Err fault) room before = before

-- told bytes stay as they were, or are no longer told
abbrev pub KeepsOrHides : Option (List ℕ) → Option (List ℕ) → Type 0
KeepsOrHides old None = ⊤
KeepsOrHides None (Some ys) = Unit {0}
KeepsOrHides (Some xs) (Some ys) = ys ≡ xs

-- `read(buf)` gave the next n told bytes at `Ok(n)`, none only at the end or with no room, and took nothing at `Err`
abbrev pub Reads : {E : Type 0} → Option (List ℕ) → Option (List ℕ) → Result ℕ E → List ℕ → Type 0
Reads old new r buf = MatchResult r
    (λ n. Consumes old new (take n buf) × (n ≡ 0 → 0 < length buf → IsAtEnd new))
    (λ _. KeepsOrHides old new)

-- `write(bytes)` took the first n bytes at `Ok(n)`, none only of an empty piece, and nothing at `Err`
abbrev pub Writes : {E : Type 0} → Option (List ℕ) → Option (List ℕ) → Result ℕ E → List ℕ → Type 0
Writes old new r bytes = MatchResult r
    (λ n. Appends old new (take n bytes) × (0 < length bytes → 0 < n))
    (λ _. KeepsOrHides old new)

-- whether a sink is settled after n bytes were taken
abbrev pub settled_behind : ℕ → Bool → Bool
settled_behind n before = if nat_eq n 0 then before else false

-- whether a sink is settled after a write
abbrev pub settled_by_write : {E : Type 0} → Result ℕ E → Bool → Bool
settled_by_write (Ok n) before = settled_behind n before
settled_by_write (Err e) before = before

-- whether a sink is settled after a flush
abbrev pub settled_by_flush : {T E : Type 0} → Result T E → Bool → Bool
settled_by_flush (Ok u) before = true
settled_by_flush (Err e) before = before
