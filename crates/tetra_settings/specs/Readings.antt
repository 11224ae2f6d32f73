-- The readings of a slot: the rows of names, and the numbers of bits and of rows of a certificate. This project's own.
use Rattle.std.specs.Prelude.{ℕ, ◌+◌, ◌≡◌, ◌⊎◌, ◌<◌, nat_eq, if◌then◌else◌, List, [], ◌∷◌, length, map, None, Some}
use Rattle.std.specs.List.{All}
use Rattle.std.specs.declared.option.Option.{Option}
use Rattle.tetra_bits.specs.declared.reading.Mark.{Mark}
use Rattle.tetra_bits.specs.declared.reading.Mark.TheVariants.{Good, Bad, Unchecked, NotYet}
use Rattle.tetra_settings.specs.declared.types.Mode.{Mode}
use Rattle.tetra_settings.specs.declared.types.Mode.TheVariants.{D72 as D72Mode, D48 as D48Mode, D24 as D24Mode, Speech as SpeechMode, Sig, Cb}
use Rattle.tetra_settings.specs.declared.slots.Letter.{Letter}
use Rattle.tetra_settings.specs.declared.slots.Letter.TheVariants.{F, H, S, T, P, Q, C}
use Rattle.tetra_settings.specs.declared.readings.FieldName.{FieldName}
use Rattle.tetra_settings.specs.declared.readings.FieldName.TheVariants.{Aach, Sync, Half, Hu, Full, D72, D48, D24, Whole, Single}
use Rattle.tetra_settings.specs.declared.readings.FieldSizes.{FieldSizes}
use Rattle.tetra_settings.specs.declared.readings.Field.{Field}
use Rattle.tetra_settings.specs.declared.readings.SlotReading.{SlotReading}
use Rattle.tetra_settings.specs.Slots.{byte_of}
use Rattle.tetra_settings.specs.Blocks.{IsTrafficMode}

-- the table of fields: the bits of the whole message, parity included, the soft values, and the steps of the
-- trellis, 0 where the field has none
abbrev pub sizes : FieldName → FieldSizes
sizes Aach = record { bits = 14; values = 30; steps = 0 }
sizes Sync = record { bits = 76; values = 120; steps = 80 }
sizes Half = record { bits = 140; values = 216; steps = 144 }
sizes Hu = record { bits = 108; values = 168; steps = 112 }
sizes Full = record { bits = 284; values = 432; steps = 288 }
sizes D72 = record { bits = 432; values = 432; steps = 0 }
sizes D48 = record { bits = 288; values = 432; steps = 292 }
sizes D24 = record { bits = 144; values = 432; steps = 148 }
sizes Whole = record { bits = 282; values = 432; steps = 184 }
sizes Single = record { bits = 141; values = 216; steps = 94 }

abbrev pub message_bits : FieldName → ℕ
message_bits name = (sizes name).bits

abbrev pub field_values : FieldName → ℕ
field_values name = (sizes name).values

-- the rows of the certificate of a trellis of so many steps: one before each step and one behind the last
abbrev pub rows_for : ℕ → ℕ
rows_for steps = if nat_eq steps 0 then 0 else steps + 1

abbrev pub certificate_rows : FieldName → ℕ
certificate_rows name = rows_for (sizes name).steps

-- the field of a whole slot of traffic; speech gives the name for speech
abbrev pub traffic_name : Mode → FieldName → FieldName
traffic_name D72Mode speech = D72
traffic_name (D48Mode span) speech = D48
traffic_name (D24Mode span) speech = D24
traffic_name SpeechMode speech = speech
traffic_name Sig speech = speech
traffic_name Cb speech = speech

-- the names of the fields of a letter, behind the access field
abbrev pub names_of : Letter → Mode → List FieldName
names_of F mode = Full ∷ []
names_of H mode = Half ∷ Half ∷ []
names_of S mode = Sync ∷ Half ∷ []
names_of T mode = traffic_name mode Whole ∷ []
names_of P mode = Half ∷ Half ∷ traffic_name mode Single ∷ []
names_of Q mode = []
names_of C mode = Hu ∷ Hu ∷ []

-- a slot is never read as Q
abbrev pub IsReadLetter : Letter → Type 0
IsReadLetter Q = ⊥
IsReadLetter F = Unit {0}
IsReadLetter H = Unit {0}
IsReadLetter S = Unit {0}
IsReadLetter T = Unit {0}
IsReadLetter P = Unit {0}
IsReadLetter C = Unit {0}

-- a letter as a byte, and names that a slot of this letter has in some mode, with or without an access field in front
abbrev pub IsRow : ℕ → List FieldName → Type 0
IsRow byte names =
    (letter : Letter) × (mode : Mode) × IsReadLetter letter × IsTrafficMode mode × (byte ≡ byte_of letter)
    × ((names ≡ names_of letter mode) ⊎ (names ≡ Aach ∷ names_of letter mode))

-- only protected data is not there yet
abbrev pub MayBeNotYet : FieldName → Type 0
MayBeNotYet D48 = Unit {0}
MayBeNotYet D24 = Unit {0}
MayBeNotYet Aach = ⊥
MayBeNotYet Sync = ⊥
MayBeNotYet Half = ⊥
MayBeNotYet Hu = ⊥
MayBeNotYet Full = ⊥
MayBeNotYet D72 = ⊥
MayBeNotYet Whole = ⊥
MayBeNotYet Single = ⊥

abbrev pub IsMarked : FieldName → Mark → Type 0
IsMarked name NotYet = MayBeNotYet name
IsMarked name Good = Unit {0}
IsMarked name Bad = Unit {0}
IsMarked name Unchecked = Unit {0}

-- how many rows the certificate of a field has; none where it is not there yet
abbrev pub rows_of : FieldName → Mark → ℕ
rows_of name NotYet = 0
rows_of name Good = certificate_rows name
rows_of name Bad = certificate_rows name
rows_of name Unchecked = certificate_rows name

-- a table of so many rows, and none where there are none
abbrev pub HasRows : ℕ → Option (List (List ℕ)) → Type 0
HasRows rows None = rows ≡ 0
HasRows rows (Some table) = (0 < rows) × (length table ≡ rows)

pub record IsField (field : Field) : Type 0 where
  pub bits : length field.reading.bits ≡ message_bits field.name
  pub mark : IsMarked field.name field.reading.mark
  pub potentials : HasRows (rows_of field.name field.reading.mark) field.reading.potentials

-- the letter and the names are a row, and each field is as its name says
pub record IsWellFormed (reading : SlotReading) : Type 0 where
  pub row : IsRow reading.letter (map (λ field. field.name) reading.fields.items)
  pub fields : All IsField reading.fields.items
