-- Fields that are read in parts: their bytes, their sizes and their room are those of the whole field.
use Rattle.std.proofs.Common.{◌≡◌, ℕ, ◌+◌, ◌*◌, ◌≤◌, Bool, List, [], ◌∷◌, ◌++◌, length, arith, refl, ap, sym, ◌∙◌, append-nil, None, Some}
use Rattle.std.specs.declared.option.Option.{Option}
use Rattle.tetra_bits.specs.Packed.{bytes_for, packed}
use Rattle.tetra_bits.specs.Parts.{AreRows, InParts}
use Rattle.tetra_bits.specs.Readings.{entry, mark_byte}
use Rattle.tetra_bits.specs.declared.reading.Mark.{Mark}
use Rattle.tetra_bits.specs.declared.reading.Outcome.{Outcome}
use Rattle.tetra_settings.specs.Readings.{message_bits, certificate_rows, rows_of, HasRows, IsField}
use Rattle.tetra_settings.specs.declared.readings.Field.{Field}
use Rattle.tetra_settings.specs.declared.readings.FieldName.{FieldName}
use Rattle.tetra_settings.specs.declared.types.Form.{Form}
use Rattle.tetra_settings.specs.declared.types.Form.TheVariants.{Plain, Audit}
use Rattle.tetra_records.specs.Readings.{table_bytes, field_bytes, parts_bytes, certificate_bytes, rows_written, two_bytes, AreSmall, IsSmall, ArePartsSmall}
use Rattle.tetra_records.specs.Rooms.{room_of}
use Rattle.tetra_records.specs.lemmas.Lengths.{table_fits}

certificate_of_rows : (form : Form) (potentials : Option (List (List ℕ))) (rows : List (List ℕ)) → AreRows potentials rows
    → certificate_bytes form potentials ≡ rows_written form rows
unfolding table_bytes
certificate_of_rows Plain potentials rows h = refl
certificate_of_rows Audit None rows h = sym (ap table_bytes h)
certificate_of_rows Audit (Some table) rows h = sym (ap table_bytes h)

-- a field's bytes are those of its parts
pub bytes_of_parts : (form : Form) (field : Field) (outcome : Outcome) (message : List Bool) (rows : List (List ℕ))
    → InParts field.reading outcome message rows → field_bytes form field ≡ parts_bytes form outcome message rows
unfolding field_bytes parts_bytes
bytes_of_parts form field outcome message rows h =
    rw (h.mark, h.metric, h.bits)
    (ap (λ bytes. (mark_byte field.reading.mark ∷ two_bytes field.reading.metric) ++ packed field.reading.bits ++ bytes)
    (certificate_of_rows form field.reading.potentials rows h.rows))

none_written : (form : Form) → rows_written form [] ≡ []
unfolding table_bytes
none_written Plain = refl
none_written Audit = refl

-- a field without rows is its mark, its metric and its message
pub bytes_without_rows : (form : Form) (outcome : Outcome) (message : List Bool)
    → parts_bytes form outcome message [] ≡ (mark_byte outcome.mark ∷ two_bytes outcome.metric) ++ packed message
unfolding parts_bytes
bytes_without_rows form outcome message =
    ap (λ bytes. (mark_byte outcome.mark ∷ two_bytes outcome.metric) ++ bytes)
    (ap (λ rows. packed message ++ rows) (none_written form) ∙ append-nil (packed message))

small_rows : (potentials : Option (List (List ℕ))) (rows : List (List ℕ)) → AreRows potentials rows → AreSmall potentials
    → (t s : ℕ) → entry rows t s ≤ 65535
unfolding entry
small_rows None rows h small t s = rw h (omega arith)
small_rows (Some table) rows h small t s = rw h (small t s)

-- where the metric and the potentials of a field are small, so are those of its parts
pub small_parts : (field : Field) (outcome : Outcome) (message : List Bool) (rows : List (List ℕ))
    → InParts field.reading outcome message rows → IsSmall field → ArePartsSmall outcome rows
small_parts field outcome message rows h small =
    record { metric = rw h.metric small.metric; entries = small_rows field.reading.potentials rows h.rows small.potentials }

rows_fit : (name : FieldName) (mark : Mark) (potentials : Option (List (List ℕ))) (rows : List (List ℕ)) → AreRows potentials rows
    → HasRows (rows_of name mark) potentials → length rows ≤ certificate_rows name
rows_fit name mark None rows h has = let none : length rows ≡ 0 = ap length h in omega (arith, none)
rows_fit name mark (Some table) rows h has = rw h (table_fits name mark table (Some table) has refl)

-- the parts of a field have room where the field has
pub parts_fit : (field : Field) (outcome : Outcome) (message : List Bool) (rows : List (List ℕ))
    → InParts field.reading outcome message rows → IsField field → 3 + bytes_for (length message) + 32 * length rows ≤ room_of field.name
parts_fit field outcome message rows h is =
    let long : bytes_for (length message) ≡ bytes_for (message_bits field.name) = ap bytes_for (ap length h.bits ∙ is.bits) in
    let few : length rows ≤ certificate_rows field.name = rows_fit field.name field.reading.mark field.reading.potentials rows h.rows is.potentials in
    omega (arith, long, few)
