-- Well-formed fronts, and how great the numbers of a reading are. This project's own.
use Rattle.std.specs.Prelude.{ℕ, ◌≡◌, ◌*◌, ◌≤◌, length, map, All, MatchOption, IfSome}
use Rattle.tetra_bits.specs.Readings.{entry}
use Rattle.tetra_settings.specs.Readings.{IsRow, MayBeNotYet, sizes}
use Rattle.tetra_settings.specs.declared.readings.Field.{Field}
use Rattle.tetra_session.specs.declared.front.FrontField.{FrontField}
use Rattle.tetra_session.specs.declared.front.Front.{Front}

-- so many values, and none only where protected data is not there yet
pub record IsFrontField (field : FrontField) : Type 0 where
  pub soft : MatchOption field.soft (MayBeNotYet field.name) (λ values. length values ≡ (sizes field.name).values)

-- the letter and the names are a row, and each field has its values
pub record IsFront (front : Front) : Type 0 where
  pub row : IsRow front.letter (map (λ field. field.name) front.fields.items)
  pub fields : All IsFrontField front.fields.items

-- the metric and the potentials of a field are at most as much for each of 432 values as the greatest of them
pub record IsBounded (top : ℕ) (field : Field) : Type 0 where
  pub metric : field.reading.metric ≤ top * 432
  pub potentials : IfSome field.reading.potentials (λ rows. (t s : ℕ) → entry rows t s ≤ top * 432)
