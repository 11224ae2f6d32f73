-- How many bytes a field takes at most.
use Rattle.std.specs.Prelude.{ℕ, ◌+◌, ◌*◌}
use Rattle.tetra_bits.specs.Packed.{bytes_for}
use Rattle.tetra_settings.specs.declared.readings.FieldName.{FieldName}
use Rattle.tetra_settings.specs.Readings.{message_bits, certificate_rows}

-- its mark, its metric, its bits and its certificate
abbrev pub room_of : FieldName → ℕ
room_of name = 3 + bytes_for (message_bits name) + 32 * certificate_rows name
