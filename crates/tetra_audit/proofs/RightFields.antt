-- A field's tests all pass exactly where its bytes spell a right reading.
use Rattle.std.proofs.Common.{◌≡◌, ◌↔◌, inl, inr, ℕ, ◌+◌, ◌*◌, ◌/◌, ◌%◌, ◌<◌, Bool, true, false, cond, List, [], ◌∷◌, ◌++◌, length, drop, get_or, ℤ, Option, Some, None, arith, refl, sym, ap, subst, ◌∙◌, length-append}
use Rattle.std.proofs.lemmas.List.{drop_all}
use Rattle.std.proofs.lemmas.Slice.Eq.{bytes_eq-Decides}
use Rattle.std.specs.Str.{bytes_eq}
use Rattle.tetra_bits.specs.Packed.{bytes_for, packed}
use Rattle.tetra_bits.specs.Readings.{mark_byte}
use Rattle.tetra_bits.specs.declared.reading.Mark.{Mark}
use Rattle.tetra_bits.specs.declared.reading.Reading.{Reading}
use Rattle.tetra_records.specs.Readings.{table_bytes, certificate_bytes, field_bytes}
use Rattle.tetra_session.specs.Fronts.{IsFrontField}
use Rattle.tetra_session.specs.Readers.{CodedPart, reader, coded_part, field_reading}
use Rattle.tetra_session.specs.declared.front.FrontField.{FrontField}
use Rattle.tetra_settings.specs.Readings.{message_bits, certificate_rows}
use Rattle.tetra_settings.specs.declared.readings.Field.{Field}
use Rattle.tetra_settings.specs.declared.types.Form.TheVariants.{Audit}
use Rattle.tetra_audit.specs.Agreement.{IsCertificate, AreCertified, IsRight}
use Rattle.tetra_audit.specs.Claims.{mark_part, metric_part, bits_part}
use Rattle.tetra_audit.specs.Fields.{claimed_rows, field_length}
use Rattle.tetra_audit.specs.Parts.{plain_why, part_why}
use Rattle.tetra_audit.specs.Verdicts.{field_why, pad_fault, bits_fault, metric_fault, mark_fault}
use Rattle.tetra_audit.specs.declared.verdict.FieldWhy.{FieldWhy}
use Rattle.tetra_audit.specs.declared.verdict.FieldWhy.TheVariants.{Bits, Metric, Mark as MarkFails}
use Rattle.tetra_audit.proofs.Agreeing.{spelled, defined, Passes, none_fails, all_pass, defined_passes, is_certificate, is_defined, table, first_none, same_number, bits_spelled, metric_spelled, mark_spelled, pad_spelled, length-packed}
use Rattle.tetra_audit.proofs.Codes.{HasPart}
use Rattle.tetra_audit.proofs.FieldCases.{IsPlain, IsCoded, plain_or_coded, why_part, why_plain}
use Rattle.tetra_audit.proofs.Spelled.{parts_together, number_split, length-table_bytes}
use Rattle.tetra_audit.proofs.Testing.{is_same}

-- a reading without a table, as it is spelled
unfoldable pub spelled_plain : Reading → List ℕ
spelled_plain reading = spelled reading.mark reading.metric reading.bits []

-- the tests of a field whose bits come by no trellis
module _ (reading : Reading) where
  pub plain_passes : plain_why reading (spelled_plain reading) ≡ None
  unfolding plain_why pad_fault bits_fault metric_fault mark_fault spelled_plain
  plain_passes =
      let mark : Mark = reading.mark in
      let metric : ℕ = reading.metric in
      let bits : List Bool = reading.bits in
      let bytes : List ℕ = spelled mark metric bits [] in
      let same : bytes_eq (bits_part (length bits) bytes) (packed bits) ≡ true = (bytes_eq-Decides (bits_part (length bits) bytes) (packed bits)).1 (bits_spelled mark metric bits [] (length bits) refl) in
      rw (pad_spelled mark metric bits [] (length bits) refl, same, is_same _ _ (metric_spelled mark metric bits [] (length bits) refl), is_same _ _ (mark_spelled mark metric bits [] (length bits) refl)) refl

  same_bytes : (xs ys : List ℕ) (why : FieldWhy) → cond (bytes_eq xs ys) None (Some why) ≡ None → xs ≡ ys
  same_bytes xs ys why e = at (bytes_eq xs ys) refl e
    where
      at : (b : Bool) → bytes_eq xs ys ≡ b → cond b None (Some why) ≡ None → xs ≡ ys
      at true is h = (bytes_eq-Decides xs ys).0 is
      at false is h = absurd (cc)

  pub plain_is_spelled : (bytes : List ℕ) → ((k : ℕ) → get_or bytes k 0 < 256) → length bytes ≡ 3 + bytes_for (length reading.bits) → plain_why reading bytes ≡ None → bytes ≡ spelled_plain reading
  unfolding plain_why pad_fault bits_fault metric_fault mark_fault spelled spelled_plain
  plain_is_spelled bytes small size none =
      let mark : Mark = reading.mark in
      let metric : ℕ = reading.metric in
      let bits : List Bool = reading.bits in
      let one = first_none (pad_fault (length bits) bytes) (bits_fault bits bytes ∷ metric_fault metric bytes ∷ mark_fault mark bytes ∷ []) none in
      let two = first_none (bits_fault bits bytes) (metric_fault metric bytes ∷ mark_fault mark bytes ∷ []) one.1 in
      let three = first_none (metric_fault metric bytes) (mark_fault mark bytes ∷ []) two.1 in
      let four = first_none (mark_fault mark bytes) [] three.1 in
      let part : bits_part (length bits) bytes ≡ packed bits = same_bytes (bits_part (length bits) bytes) (packed bits) Bits two.0 in
      let number : metric_part bytes ≡ metric = same_number (metric_part bytes) metric Metric three.0 in
      let first : mark_part bytes ≡ mark_byte mark = same_number (mark_part bytes) (mark_byte mark) MarkFails four.0 in
      let behind : drop (3 + bytes_for (length bits)) bytes ≡ [] = drop_all (3 + bytes_for (length bits)) bytes (omega arith) in
      let halves = number_split (get_or bytes 1 0) (get_or bytes 2 0) metric (small 2) (sym number) in
      sym (parts_together bytes (bytes_for (length bits)) (omega arith))
      ∙ (ap (λ m. (m ∷ get_or bytes 1 0 ∷ get_or bytes 2 0 ∷ []) ++ bits_part (length bits) bytes ++ drop (3 + bytes_for (length bits)) bytes) first
      ∙ (ap (λ x. (mark_byte mark ∷ x ∷ get_or bytes 2 0 ∷ []) ++ bits_part (length bits) bytes ++ drop (3 + bytes_for (length bits)) bytes) (sym halves.0)
      ∙ (ap (λ y. (mark_byte mark ∷ metric / 256 ∷ y ∷ []) ++ bits_part (length bits) bytes ++ drop (3 + bytes_for (length bits)) bytes) (sym halves.1)
      ∙ (ap (λ p. (mark_byte mark ∷ metric / 256 ∷ metric % 256 ∷ []) ++ p ++ drop (3 + bytes_for (length bits)) bytes) part
      ∙ ap (λ b. (mark_byte mark ∷ metric / 256 ∷ metric % 256 ∷ []) ++ packed bits ++ b) behind))))

-- the bytes of a reading
bytes_by : (claimed : Field) (reading : Reading) (potentials : Option (List (List ℕ))) →
    claimed.reading.mark ≡ reading.mark → claimed.reading.metric ≡ reading.metric → claimed.reading.bits ≡ reading.bits → claimed.reading.potentials ≡ potentials →
    field_bytes Audit claimed ≡ spelled reading.mark reading.metric reading.bits (certificate_bytes Audit potentials)
unfolding field_bytes spelled
bytes_by claimed reading potentials e f g h = rw (e, f, g, h) refl

length-spelled : (mark : Mark) (metric : ℕ) (bits : List Bool) (table : List ℕ) → length (spelled mark metric bits table) ≡ 3 + bytes_for (length bits) + length table
unfolding spelled
length-spelled mark metric bits table = omega (arith, length-append (packed bits) table, length-packed bits)

-- a table of a field of which a trellis reads a part
table_of : (part : CodedPart) (soft : List ℤ) (potentials : Option (List (List ℕ))) → AreCertified (Some part) (Some soft) potentials
    → (table : List (List ℕ)) × (potentials ≡ Some table) × IsCertificate part.plan (drop part.before soft) table
table_of part soft None is = absurd is
table_of part soft (Some rows) is = (rows, refl, is)

-- a right reading whose bytes these are
pub record Reads (rows : List ℕ) (field : FrontField) (bytes : List ℕ) : Type 0 where
  pub claimed : Field
  pub right : IsRight rows field claimed
  pub spells : bytes ≡ field_bytes Audit claimed

-- the bytes of a right reading
module _ (rows : List ℕ) (field : FrontField) (claimed : Field) (right : IsRight rows field claimed) where
  right_bytes : (potentials : Option (List (List ℕ))) → claimed.reading.potentials ≡ potentials →
      let reading : Reading = field_reading rows field.name field.soft in
      field_bytes Audit claimed ≡ spelled reading.mark reading.metric reading.bits (certificate_bytes Audit potentials)
  right_bytes potentials e =
      bytes_by claimed (field_reading rows field.name field.soft) potentials right.mark right.metric right.bits e

  right_plain : IsPlain rows field.name field.soft → field_bytes Audit claimed ≡ spelled_plain (field_reading rows field.name field.soft)
  unfolding spelled_plain
  right_plain plain = right_bytes None (plain.only claimed.reading.potentials right.potentials)

  pub right_table : (coded : IsCoded rows field.name field.soft) → (table : List (List ℕ)) × (claimed.reading.potentials ≡ Some table) × IsCertificate coded.part.plan (drop coded.part.before coded.soft) table
  right_table coded =
      table_of coded.part coded.soft claimed.reading.potentials
      (subst (λ (p : Option CodedPart). AreCertified p (Some coded.soft) claimed.reading.potentials) coded.of_part
      (subst (λ (v : Option (List ℤ)). AreCertified (coded_part (reader field.name)) v claimed.reading.potentials) coded.there right.potentials))

  pub right_coded : (table : List (List ℕ)) → claimed.reading.potentials ≡ Some table → field_bytes Audit claimed ≡ defined (field_reading rows field.name field.soft) table
  unfolding defined
  right_coded table e = right_bytes (Some table) e

  -- how many they are
  coded_length : (coded : IsCoded rows field.name field.soft) → length (field_bytes Audit claimed) ≡ field_length field
  unfolding defined field_length
  coded_length coded =
      let reading : Reading = field_reading rows field.name field.soft in
      let table = right_table coded in
      let bytes : length (field_bytes Audit claimed) ≡ 3 + bytes_for (length reading.bits) + length (table_bytes table.0) =
      ap length (right_coded table.0 table.1) ∙ length-spelled reading.mark reading.metric reading.bits (table_bytes table.0) in
      let bits : bytes_for (length reading.bits) ≡ bytes_for (message_bits field.name) = ap bytes_for coded.has.bits in
      let rows_long : length (table_bytes table.0) ≡ 32 * length table.0 = length-table_bytes table.0 table.2.states in
      let many : length table.0 ≡ certificate_rows field.name = table.2.rows ∙ sym coded.many in
      let claimed_many : claimed_rows field.name field.soft ≡ certificate_rows field.name = ap (claimed_rows field.name) coded.there in
      omega (arith, bytes, bits, rows_long, many, claimed_many)

  plain_length : IsPlain rows field.name field.soft → length (field_bytes Audit claimed) ≡ field_length field
  unfolding spelled_plain field_length
  plain_length plain =
      let reading : Reading = field_reading rows field.name field.soft in
      let bytes : length (field_bytes Audit claimed) ≡ 3 + bytes_for (length reading.bits) + 0 = ap length (right_plain plain) ∙ length-spelled reading.mark reading.metric reading.bits [] in
      let bits : bytes_for (length reading.bits) ≡ bytes_for (message_bits field.name) = ap bytes_for plain.bits in
      omega (arith, bytes, bits, plain.none)

  pub right_length : IsFrontField field → length (field_bytes Audit claimed) ≡ field_length field
  right_length is = elim (plain_or_coded rows field is) [ inl plain ↦ plain_length plain | inr coded ↦ coded_length coded ]

-- the defined reading with these potentials
with_potentials : List ℕ → FrontField → Option (List (List ℕ)) → Field
with_potentials rows field potentials =
    let reading : Reading = field_reading rows field.name field.soft in
    record { name = field.name; reading = record { mark = reading.mark; metric = reading.metric; bits = reading.bits; potentials = potentials } }

is_right : (rows : List ℕ) (field : FrontField) (potentials : Option (List (List ℕ))) → AreCertified (coded_part (reader field.name)) field.soft potentials → IsRight rows field (with_potentials rows field potentials)
unfolding with_potentials
is_right rows field potentials is = record { name = refl; mark = refl; metric = refl; bits = refl; potentials = is }

module _ (rows : List ℕ) (field : FrontField) (bytes : List ℕ) (small : (k : ℕ) → get_or bytes k 0 < 256) (size : length bytes ≡ field_length field) where
  -- a field of which a trellis reads a part
  module _ (coded : IsCoded rows field.name field.soft) where
    unfoldable reading : Reading
    reading = field_reading rows field.name field.soft

    long : length bytes ≡ 3 + bytes_for (length reading.bits) + 32 * (coded.part.plan.steps + 1)
    unfolding reading field_length
    long =
        let bits : bytes_for (length (field_reading rows field.name field.soft).bits) ≡ bytes_for (message_bits field.name) = ap bytes_for coded.has.bits in
        let claimed_many : claimed_rows field.name field.soft ≡ coded.part.plan.steps + 1 = ap (claimed_rows field.name) coded.there ∙ coded.many in
        omega (arith, size, bits, claimed_many)

    has : HasPart coded.part (message_bits field.name) coded.soft reading
    unfolding reading
    has = coded.has

    tests_coded : part_why coded.part coded.soft reading bytes ≡ field_why rows field bytes
    unfolding reading
    tests_coded = why_part rows field bytes coded

    certified_there : (claim : List (List ℕ)) → IsCertificate coded.part.plan (drop coded.part.before coded.soft) claim → AreCertified (coded_part (reader field.name)) field.soft (Some claim)
    certified_there claim is =
        subst (λ (v : Option (List ℤ)). AreCertified (coded_part (reader field.name)) v (Some claim)) (sym coded.there)
        (subst (λ (p : Option CodedPart). AreCertified p (Some coded.soft) (Some claim)) (sym coded.of_part) is)

    bytes_coded : (claimed : Field) → IsRight rows field claimed → (claim : List (List ℕ)) → claimed.reading.potentials ≡ Some claim → field_bytes Audit claimed ≡ defined reading claim
    unfolding reading
    bytes_coded claimed right claim e = right_coded rows field claimed right claim e

    coded_reads : field_why rows field bytes ≡ None → Reads rows field bytes
    unfolding with_potentials
    coded_reads none =
        let passes : Passes coded.part coded.soft reading bytes = all_pass coded.part coded.soft reading bytes (tests_coded ∙ none) in
        let claim : List (List ℕ) = table coded.part (message_bits field.name) coded.soft reading has bytes small long passes in
        let right : IsRight rows field (with_potentials rows field (Some claim)) =
        is_right rows field (Some claim) (certified_there claim (is_certificate coded.part (message_bits field.name) coded.soft reading has bytes small long passes)) in
        record {
          claimed = with_potentials rows field (Some claim);
          right = right;
          spells = sym (is_defined coded.part (message_bits field.name) coded.soft reading has bytes small long passes) ∙ sym (bytes_coded (with_potentials rows field (Some claim)) right claim refl);
        }

    reads_coded : Reads rows field bytes → field_why rows field bytes ≡ None
    reads_coded reads =
        let claim = right_table rows field reads.claimed reads.right coded in
        let same : bytes ≡ defined reading claim.0 = reads.spells ∙ bytes_coded reads.claimed reads.right claim.0 claim.1 in
        let passes : Passes coded.part coded.soft reading (defined reading claim.0) =
        defined_passes coded.part (message_bits field.name) coded.soft reading has claim.0 claim.2 (subst (λ (bs : List ℕ). (k : ℕ) → get_or bs k 0 < 256) same small)
        (let n : length (defined reading claim.0) ≡ length bytes = ap length (sym same) in omega (arith, long)) in
        sym tests_coded ∙ (ap (part_why coded.part coded.soft reading) same ∙ none_fails coded.part coded.soft reading (defined reading claim.0) passes)

  -- a field without a trellis
  module _ (plain : IsPlain rows field.name field.soft) where
    plain_long : length bytes ≡ 3 + bytes_for (length (field_reading rows field.name field.soft).bits)
    unfolding field_length
    plain_long =
        let bits : bytes_for (length (field_reading rows field.name field.soft).bits) ≡ bytes_for (message_bits field.name) = ap bytes_for plain.bits in
        omega (arith, size, bits, plain.none)

    plain_reads : field_why rows field bytes ≡ None → Reads rows field bytes
    unfolding with_potentials
    plain_reads none =
        let right : IsRight rows field (with_potentials rows field None) = is_right rows field None plain.certified in
        record {
          claimed = with_potentials rows field None;
          right = right;
          spells = plain_is_spelled (field_reading rows field.name field.soft) bytes small plain_long (why_plain rows field bytes plain ∙ none)
              ∙ sym (right_plain rows field (with_potentials rows field None) right plain);
        }

    reads_plain : Reads rows field bytes → field_why rows field bytes ≡ None
    reads_plain reads =
        sym (why_plain rows field bytes plain)
        ∙ (ap (plain_why (field_reading rows field.name field.soft)) (reads.spells ∙ right_plain rows field reads.claimed reads.right plain) ∙ plain_passes (field_reading rows field.name field.soft))

  -- any field
  pub field_agrees : IsFrontField field → (field_why rows field bytes ≡ None) ↔ Reads rows field bytes
  field_agrees is = elim (plain_or_coded rows field is) [
    | inl plain ↦ (plain_reads plain, reads_plain plain)
    | inr coded ↦ (coded_reads coded, reads_coded coded)
  ]
