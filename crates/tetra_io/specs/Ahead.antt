-- What callers see of a source that reads ahead.
use Rattle.std.specs.Prelude.{ℕ, List}

-- the source that it reads from, and the bytes that came and were not given yet
pub record ReadAheadState (S : Type 0) : Type 0 where
  pub source : S
  pub held : List ℕ
