-- How a source and a sink that never fail count.
use Rattle.std.specs.Prelude.{ℕ, ◌+◌, ◌-◌, ◌^◌, min, Bool, List}

-- what callers see of a source that never fails
pub record SureSourceState : Type 0 where
  pub rest : List ℕ
  pub ends : ℕ

-- what callers see of a sink that never fails
pub record SureSinkState : Type 0 where
  pub count : ℕ
  pub settled : Bool

-- a number of bytes and so many more, which stays at its last value
abbrev pub count_with : ℕ → ℕ → ℕ
count_with count more = min (count + more) (2 ^ 64 - 1)
