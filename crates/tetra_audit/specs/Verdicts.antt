-- The verdict on a claimed reading record. This project's own.
use Rattle.std.specs.Prelude.{ℕ, ◌+◌, nat_eq, Bool, cond, List, [], ◌∷◌, length, take, drop, slice_index, None, Some, ℤ}
use Rattle.std.specs.Str.{bytes_eq}
use Rattle.std.specs.declared.option.Option.{Option}
use Rattle.tetra_bits.specs.Packed.{packed}
use Rattle.tetra_bits.specs.Readings.{mark_byte}
use Rattle.tetra_bits.specs.declared.reading.Mark.{Mark}
use Rattle.tetra_bits.specs.declared.reading.Reading.{Reading}
use Rattle.tetra_cert.specs.Verdicts.{verdict_of}
use Rattle.tetra_cert.specs.declared.verdict.Verdict.{Verdict}
use Rattle.tetra_cert.specs.declared.verdict.Verdict.TheVariants.{Accepted, Refused}
use Rattle.tetra_rm.specs.declared.table.Rows.{Rows}
use Rattle.tetra_parity.specs.Parity.{same_bits}
use Rattle.tetra_session.specs.Readers.{CodedPart, reader, coded_part, field_reading}
use Rattle.tetra_session.specs.declared.front.FrontField.{FrontField}
use Rattle.tetra_session.specs.declared.front.Front.{Front}
use Rattle.tetra_audit.specs.Claims.{claimed_bits, claimed_table, has_pad, mark_part, metric_part, bits_part, table_part}
use Rattle.tetra_audit.specs.Fields.{field_length}
use Rattle.tetra_audit.specs.declared.verdict.FieldWhy.{FieldWhy}
use Rattle.tetra_audit.specs.declared.verdict.FieldWhy.TheVariants.{Pad, Bits, Cert, Metric, Mark as MarkFails}
use Rattle.tetra_audit.specs.declared.verdict.SlotVerdict.{SlotVerdict}
use Rattle.tetra_audit.specs.declared.verdict.SlotVerdict.TheVariants.{Agrees, Kind, Field}

-- the first of some reasons, where there is one
abbrev pub first_of : List (Option FieldWhy) → Option FieldWhy
first_of [] = None
first_of (None ∷ whys) = first_of whys
first_of (Some why ∷ whys) = Some why

-- a pad bit behind len bits is 1
unfoldable pub pad_fault : ℕ → List ℕ → Option FieldWhy
pad_fault len bytes = cond (has_pad (bits_part len bytes) len) (Some Pad) None

-- the bits are not these
unfoldable pub bits_fault : List Bool → List ℕ → Option FieldWhy
bits_fault bits bytes = cond (bytes_eq (bits_part (length bits) bytes) (packed bits)) None (Some Bits)

-- the checker of certificates refuses a message with its table
abbrev pub fault_by : Verdict → Option FieldWhy
fault_by Accepted = None
fault_by (Refused step state rule) = Some (Cert step state rule)

unfoldable pub cert_fault : CodedPart → ℕ → List ℤ → List ℕ → Option FieldWhy
cert_fault part len soft bytes =
    fault_by (verdict_of part.plan (drop part.before soft) (part.coded (claimed_bits (bits_part len bytes) len))
    (claimed_table (table_part len bytes) (part.plan.steps + 1)))

-- the bits beside the trellis are not the defined ones
unfoldable pub uncoded_fault : CodedPart → List Bool → List ℕ → Option FieldWhy
uncoded_fault part bits bytes =
    let claimed = claimed_bits (bits_part (length bits) bytes) (length bits) in
    cond (same_bits (part.uncoded claimed) (part.uncoded bits)) None (Some Bits)

-- the metric is not this
unfoldable pub metric_fault : ℕ → List ℕ → Option FieldWhy
metric_fault metric bytes = cond (nat_eq (metric_part bytes) metric) None (Some Metric)

-- the mark is not this
unfoldable pub mark_fault : Mark → List ℕ → Option FieldWhy
mark_fault mark bytes = cond (nat_eq (mark_part bytes) (mark_byte mark)) None (Some MarkFails)

-- The tests of a field, in this order: its pad bits; its bits that come by no trellis; its certificate, where some come
-- by one; its metric; its mark.
abbrev pub plain_tests : Reading → List ℕ → List (Option FieldWhy)
plain_tests reading bytes =
    pad_fault (length reading.bits) bytes ∷ bits_fault reading.bits bytes
    ∷ metric_fault reading.metric bytes ∷ mark_fault reading.mark bytes ∷ []

abbrev pub coded_tests : CodedPart → List ℤ → Reading → List ℕ → List (Option FieldWhy)
coded_tests part soft reading bytes =
    pad_fault (length reading.bits) bytes ∷ uncoded_fault part reading.bits bytes
    ∷ cert_fault part (length reading.bits) soft bytes
    ∷ metric_fault reading.metric bytes ∷ mark_fault reading.mark bytes ∷ []

abbrev pub field_tests : Option CodedPart → Option (List ℤ) → Reading → List ℕ → List (Option FieldWhy)
field_tests (Some part) (Some soft) reading bytes = coded_tests part soft reading bytes
field_tests (Some part) None reading bytes = plain_tests reading bytes
field_tests None values reading bytes = plain_tests reading bytes

-- the first of its tests that fails
unfoldable pub field_why : List ℕ → FrontField → List ℕ → Option FieldWhy
field_why rows field bytes =
    first_of (field_tests (coded_part (reader field.name)) field.soft (field_reading rows field.name field.soft) bytes)

-- the verdict where the field numbered i has this reason, and the later ones this verdict
abbrev pub verdict_by : ℕ → Option FieldWhy → SlotVerdict → SlotVerdict
verdict_by i None later = later
verdict_by i (Some why) later = Field i why

-- the verdict on the fields, numbered from i on
unfoldable pub fields_verdict : List ℕ → ℕ → List FrontField → List ℕ → SlotVerdict
fields_verdict rows i [] bytes = Agrees
fields_verdict rows i (field ∷ fields) bytes =
    verdict_by i (field_why rows field (take (field_length field) bytes))
    (fields_verdict rows (i + 1) fields (drop (field_length field) bytes))

-- the verdict on a claim: its letter is compared first. The rows are those of the access code
unfoldable pub slot_verdict : Rows → Front → List ℕ → SlotVerdict
slot_verdict rows front claim = cond (nat_eq (slice_index claim 0) front.letter)
    (fields_verdict rows.0 0 front.fields.items (drop 1 claim)) Kind
