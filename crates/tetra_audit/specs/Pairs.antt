-- Where two claims about one slot agree. This project's own.
use Rattle.std.specs.Prelude.{◌≡◌, ℕ, ◌+◌, ◌*◌, ◌≤◌, Bool, List, [], ◌∷◌, take, drop, slice_index, None, Some, ℤ}
use Rattle.std.specs.declared.option.Option.{Option}
use Rattle.tetra_bits.specs.Packed.{bytes_for}
use Rattle.tetra_puncture.specs.Trellis.{state_passed}
use Rattle.tetra_session.specs.Readers.{CodedPart, reader, coded_part}
use Rattle.tetra_session.specs.declared.front.FrontField.{FrontField}
use Rattle.tetra_session.specs.declared.front.Front.{Front}
use Rattle.tetra_settings.specs.Readings.{message_bits}
use Rattle.tetra_audit.specs.Claims.{claimed_bits, claimed_entry, bits_part, table_part}
use Rattle.tetra_audit.specs.Fields.{field_length}

-- the bytes of a field in front of its certificate, which is the table part: its mark, its metric and its packed bits
abbrev pub head_part : ℕ → List ℕ → List ℕ
head_part len bytes = take (3 + bytes_for len) bytes

-- the message that the bytes of a field claim
abbrev pub claimed_message : CodedPart → ℕ → List ℕ → List Bool
claimed_message part len bytes = part.coded (claimed_bits (bits_part len bytes) len)

-- the potential of state s in row t, both counted from 0, is the same number in two certificates, in the same two bytes
pub record IsSamePotential (first second : List ℕ) (t s : ℕ) : Type 0 where
  pub number : claimed_entry first (t + 1) (s + 1) ≡ claimed_entry second (t + 1) (s + 1)
  pub higher : slice_index first (2 * (16 * t + s)) ≡ slice_index second (2 * (16 * t + s))
  pub lower : slice_index first (2 * (16 * t + s) + 1) ≡ slice_index second (2 * (16 * t + s) + 1)

-- so it is in each row at the state that the claimed message passes
abbrev pub IsSameAlong : CodedPart → ℕ → List ℕ → List ℕ → Type 0
IsSameAlong part len first second =
    (t : ℕ) → t ≤ part.plan.steps
    → IsSamePotential (table_part len first) (table_part len second) t
    (state_passed (claimed_message part len first) t)

-- where a trellis reads some of the field and it has values
abbrev pub AreSameAlong : Option CodedPart → Option (List ℤ) → ℕ → List ℕ → List ℕ → Type 0
AreSameAlong (Some part) (Some soft) len first second = IsSameAlong part len first second
AreSameAlong (Some part) None len first second = Unit {0}
AreSameAlong None values len first second = Unit {0}

-- the bytes of a field in two claims: those in front of its certificate are the same
abbrev pub IsSameOutside : FrontField → List ℕ → List ℕ → Type 0
IsSameOutside field first second =
    head_part (message_bits field.name) first ≡ head_part (message_bits field.name) second

-- and in its certificate each potential of a state that its message passes
abbrev pub IsSameOnPath : FrontField → List ℕ → List ℕ → Type 0
IsSameOnPath field first second =
    AreSameAlong (coded_part (reader field.name)) field.soft (message_bits field.name) first second

-- so it is with each field, the claims cut as the verdict cuts them
abbrev pub EachField : (FrontField → List ℕ → List ℕ → Type 0) → List FrontField → List ℕ → List ℕ → Type 0
EachField IsSame [] first second = Unit {0}
EachField IsSame (field ∷ fields) first second =
    IsSame field (take (field_length field) first) (take (field_length field) second)
    × EachField IsSame fields (drop (field_length field) first) (drop (field_length field) second)

-- two claims are the same at every byte outside certificates: the letter, and of each field what stands in front of its
-- certificate
abbrev pub AgreeOutside : Front → List ℕ → List ℕ → Type 0
AgreeOutside front first second =
    (slice_index first 0 ≡ slice_index second 0)
    × EachField IsSameOutside front.fields.items (drop 1 first) (drop 1 second)

-- and inside certificates at every potential of a state that the message of the field passes
abbrev pub AgreeOnPath : Front → List ℕ → List ℕ → Type 0
AgreeOnPath front first second = EachField IsSameOnPath front.fields.items (drop 1 first) (drop 1 second)
