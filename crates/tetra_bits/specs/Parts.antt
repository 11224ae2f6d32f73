-- Readings that are written in parts, each where it is wanted. This project's own.
use Rattle.std.specs.Prelude.{◌≡◌, ℕ, Bool, List, [], None, Some}
use Rattle.std.specs.declared.option.Option.{Option}
use Rattle.tetra_bits.specs.declared.reading.Outcome.{Outcome}
use Rattle.tetra_bits.specs.declared.reading.Reading.{Reading}

-- a table has the potentials of a reading, and no rows where the reading has none
abbrev pub AreRows : Option (List (List ℕ)) → List (List ℕ) → Type 0
AreRows None table = table ≡ []
AreRows (Some potentials) table = table ≡ potentials

-- the parts of a reading: what is said of the message, the message, and a table
pub record InParts (reading : Reading) (outcome : Outcome) (message : List Bool) (table : List (List ℕ)) : Type 0 where
  pub mark : outcome.mark ≡ reading.mark
  pub metric : outcome.metric ≡ reading.metric
  pub bits : message ≡ reading.bits
  pub rows : AreRows reading.potentials table
