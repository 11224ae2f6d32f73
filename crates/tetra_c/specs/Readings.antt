-- What is read of a slot, as C has it.
use Rattle.std.specs.Prelude.{ℕ, ◌≡◌, ◌<◌, List, length, take, slice_index_or, None, Some}
use Rattle.std.specs.declared.option.Option.{Option}
use Rattle.tetra_bits.specs.declared.reading.Mark.{Mark}
use Rattle.tetra_bits.specs.declared.reading.Mark.TheVariants.{Good, Bad, Unchecked, NotYet}
use Rattle.tetra_settings.specs.declared.readings.Field.{Field}
use Rattle.tetra_settings.specs.declared.readings.FieldName.{FieldName}
use Rattle.tetra_settings.specs.declared.readings.FieldName.TheVariants.{Aach, Sync, Half, Hu, Full, D72, D48, D24, Whole, Single}
use Rattle.tetra_settings.specs.declared.readings.SlotReading.{SlotReading}
use Rattle.tetra_c.specs.Bytes.{bytes_of}
use Rattle.tetra_c.specs.declared.readings.TetraField.{TetraField}
use Rattle.tetra_c.specs.declared.readings.TetraReading.{TetraReading}

-- the numbers of the marks
abbrev pub mark_number : Mark → ℕ
mark_number Good = 0
mark_number Bad = 1
mark_number Unchecked = 2
mark_number NotYet = 3

-- the numbers of the names
abbrev pub name_number : FieldName → ℕ
name_number Aach = 0
name_number Sync = 1
name_number Half = 2
name_number Hu = 3
name_number Full = 4
name_number D72 = 5
name_number D48 = 6
name_number D24 = 7
name_number Whole = 8
name_number Single = 9

-- the rows of a field as C has it
abbrev pub rows_of : TetraField → List (List ℕ)
rows_of field = take field.rows field.potentials

-- a certificate is written, where there is one
abbrev pub HasTable : Option (List (List ℕ)) → ℕ → List (List ℕ) → Type 0
HasTable None rows potentials = rows ≡ 0
HasTable (Some table) rows potentials = (rows ≡ length table) × (take rows potentials ≡ table)

-- what is read of a field is written
pub record IsPut (field : Field) (out : TetraField) : Type 0 where
  pub name : out.name ≡ name_number field.name
  pub mark : out.mark ≡ mark_number field.reading.mark
  pub metric : out.metric ≡ field.reading.metric
  pub bits : out.bits ≡ length field.reading.bits
  pub message : take out.bits out.message ≡ bytes_of field.reading.bits
  pub table : HasTable field.reading.potentials out.rows out.potentials

-- the first n fields are written
abbrev pub ArePutTo : List Field → List TetraField → ℕ → Type 0
ArePutTo fields out n = (k : ℕ) → k < n → (field : Field) (place : TetraField)
    → IsPut (slice_index_or fields k field) (slice_index_or out k place)

-- what is read of a slot is written
pub record ArePut (reading : SlotReading) (out : TetraReading) : Type 0 where
  pub letter : out.letter ≡ reading.letter
  pub count : out.count ≡ length reading.fields.items
  pub fields : ArePutTo reading.fields.items out.fields (length reading.fields.items)
