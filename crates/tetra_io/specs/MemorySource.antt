-- How a source over memory reads.
use Rattle.std.specs.Prelude.{Result, Ok, Err, drop, ℕ, min, List, length}
use Rattle.tetra_io.specs.Streams.{next_count, ends_behind}
use Rattle.tetra_io.specs.Calls.{bound_of}

-- what callers see of a source over memory
pub record MemSourceState : Type 0 where
  pub rest : List ℕ
  pub pieces : List ℕ
  pub fail_at : List ℕ
  pub calls : ℕ
  pub faults : ℕ
  pub ends : ℕ

-- how many bytes the next read gives, into a buffer of so many
abbrev pub read_len : MemSourceState → ℕ → ℕ
read_len s room = bound_of s.pieces (next_count s.calls) (min room (length s.rest))

-- a source after a read into a buffer of so many
abbrev pub after_read : {E : Type 0} → MemSourceState → Result ℕ E → ℕ → MemSourceState
after_read s (Ok n) room = record s {
  rest = drop n s.rest;
  calls = next_count s.calls;
  ends = ends_behind n room s.ends;
}
after_read s (Err e) room = record s { calls = next_count s.calls; faults = next_count s.faults }
