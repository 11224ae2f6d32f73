-- How a sink over memory writes.
use Rattle.std.specs.Prelude.{Result, Ok, Err, Bool, true, ◌≡◌, ◌⊎◌, Contains, ◌<◌, ℕ, ◌-◌, ◌++◌, min, List, take}
use Rattle.tetra_io.specs.Streams.{next_count, settled_behind}
use Rattle.tetra_io.specs.Calls.{bound_of}

-- what callers see of a sink over memory; room is what is left of it
pub record MemSinkState : Type 0 where
  pub taken : List ℕ
  pub room : ℕ
  pub pieces : List ℕ
  pub fail_at : List ℕ
  pub calls : ℕ
  pub faults : ℕ
  pub settled : Bool

-- how many bytes the next write takes of a piece of so many
abbrev pub write_len : MemSinkState → ℕ → ℕ
write_len s len = bound_of s.pieces (next_count s.calls) (min len s.room)

-- the next write of so many bytes fails
abbrev pub WriteFails : MemSinkState → ℕ → Type 0
WriteFails s len = Contains s.fail_at (next_count s.calls) ⊎ ((0 < len) × (s.room ≡ 0))

-- a sink after a write
abbrev pub after_write : {E : Type 0} → MemSinkState → Result ℕ E → List ℕ → MemSinkState
after_write s (Ok n) bytes = record s {
  taken = s.taken ++ take n bytes;
  room = s.room - n;
  calls = next_count s.calls;
  settled = settled_behind n s.settled;
}
after_write s (Err e) bytes = record s { calls = next_count s.calls; faults = next_count s.faults }

-- a sink after a flush
abbrev pub after_flush : {T E : Type 0} → MemSinkState → Result T E → MemSinkState
after_flush s (Ok u) = record s { calls = next_count s.calls; settled = true }
after_flush s (Err e) = record s { calls = next_count s.calls; faults = next_count s.faults }
