-- The edge to std's readers and writers.
use Rattle.std.specs.Prelude.{ℕ, Bool, ◌==◌, if◌then◌else◌, List, None}
use Rattle.std.specs.declared.option.Option.{Option}

-- what callers see of a source over a reader
pub record StdSourceState (R : Type 0) : Type 0 where
  pub reader : R
  pub faults : ℕ
  pub ends : ℕ

-- what callers see of a sink over a writer
pub record StdSinkState (W : Type 0) : Type 0 where
  pub writer : W
  pub faults : ℕ
  pub settled : Bool

-- what is told while no fault was counted
abbrev pub told_until : ℕ → Option (List ℕ) → Option (List ℕ)
told_until faults told = if faults == 0 then told else None
