-- How a reading is spelled. Numbers of two bytes have the higher byte first. This project's own.
use Rattle.std.specs.Prelude.{ℕ, ◌≤◌, ◌/◌, ◌%◌, Bool, List, [], ◌∷◌, ◌++◌, None, Some}
use Rattle.std.specs.List.{flat_map}
use Rattle.std.specs.declared.option.Option.{Option}
use Rattle.tetra_bits.specs.Packed.{packed}
use Rattle.tetra_bits.specs.Readings.{entry, mark_byte}
use Rattle.tetra_bits.specs.declared.reading.Outcome.{Outcome}
use Rattle.tetra_settings.specs.declared.readings.Field.{Field}
use Rattle.tetra_settings.specs.declared.readings.SlotReading.{SlotReading}
use Rattle.tetra_settings.specs.declared.types.Form.{Form}
use Rattle.tetra_settings.specs.declared.types.Form.TheVariants.{Plain, Audit}

-- a number below 2^16 in two bytes
abbrev pub two_bytes : ℕ → List ℕ
two_bytes n = n / 256 ∷ n % 256 ∷ []

-- a row of potentials
unfoldable pub row_bytes : List ℕ → List ℕ
row_bytes row = flat_map two_bytes row

-- all rows, one behind the other
unfoldable pub table_bytes : List (List ℕ) → List ℕ
table_bytes rows = flat_map row_bytes rows

-- the certificate of a field: in form audit, where it has potentials
abbrev pub certificate_bytes : Form → Option (List (List ℕ)) → List ℕ
certificate_bytes Plain potentials = []
certificate_bytes Audit None = []
certificate_bytes Audit (Some rows) = table_bytes rows

-- a field: its mark, its metric, its bits, and its certificate
unfoldable pub field_bytes : Form → Field → List ℕ
field_bytes form field =
    (mark_byte field.reading.mark ∷ two_bytes field.reading.metric) ++ packed field.reading.bits
    ++ certificate_bytes form field.reading.potentials

-- the rows of a table where a record has them: in form audit
abbrev pub rows_written : Form → List (List ℕ) → List ℕ
rows_written Plain rows = []
rows_written Audit rows = table_bytes rows

-- a field that was read in parts: its mark, its metric, its message, and its rows
unfoldable pub parts_bytes : Form → Outcome → List Bool → List (List ℕ) → List ℕ
parts_bytes form outcome message rows =
    (mark_byte outcome.mark ∷ two_bytes outcome.metric) ++ packed message ++ rows_written form rows

-- a reading: its letter and its fields
unfoldable pub reading_spelling : Form → SlotReading → List ℕ
reading_spelling form reading = (reading.letter ∷ []) ++ flat_map (field_bytes form) reading.fields.items

-- each potential fits two bytes
abbrev pub AreSmall : Option (List (List ℕ)) → Type 0
AreSmall None = Unit {0}
AreSmall (Some rows) = (t s : ℕ) → entry rows t s ≤ 65535

-- the metric of a field and each of its potentials fit two bytes
pub record IsSmall (field : Field) : Type 0 where
  pub metric : field.reading.metric ≤ 65535
  pub potentials : AreSmall field.reading.potentials

-- the metric of a field that was read in parts and each entry of its rows fit two bytes
pub record ArePartsSmall (outcome : Outcome) (rows : List (List ℕ)) : Type 0 where
  pub metric : outcome.metric ≤ 65535
  pub entries : (t s : ℕ) → entry rows t s ≤ 65535
