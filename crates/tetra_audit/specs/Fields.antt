-- The fields of a front, and how many bytes each has in a reading record with certificates. This project's own.
use Rattle.std.specs.Prelude.{ℕ, ◌+◌, ◌*◌, List, sum_by, None, Some, ℤ}
use Rattle.std.specs.declared.option.Option.{Option}
use Rattle.tetra_bits.specs.Packed.{bytes_for}
use Rattle.tetra_session.specs.declared.front.FrontField.{FrontField}
use Rattle.tetra_session.specs.declared.front.Front.{Front}
use Rattle.tetra_settings.specs.Readings.{message_bits, certificate_rows}
use Rattle.tetra_settings.specs.declared.readings.FieldName.{FieldName}

-- how many rows of potentials a field claims
abbrev pub claimed_rows : FieldName → Option (List ℤ) → ℕ
claimed_rows name None = 0
claimed_rows name (Some soft) = certificate_rows name

-- how many bytes a field has in a reading record with certificates
unfoldable pub field_length : FrontField → ℕ
field_length field = 3 + bytes_for (message_bits field.name) + 32 * claimed_rows field.name field.soft

-- how many bytes the record has
unfoldable pub claim_length : Front → ℕ
claim_length front = 1 + sum_by field_length front.fields.items
