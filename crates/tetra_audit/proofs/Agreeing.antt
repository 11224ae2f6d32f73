-- A field whose tests all pass, and a field that is spelled as it is defined.
use Rattle.std.proofs.Common.{◌≡◌, ℕ, ◌+◌, ◌-◌, ◌*◌, ◌/◌, ◌%◌, ◌<◌, ◌≤◌, Bool, true, false, cond, eqb, List, [], ◌∷◌, ◌++◌, length, drop, get_or, ℤ, Option, Some, None, arith, refl, sym, ap, subst, ◌∙◌, length-drop}
use Rattle.std.proofs.lemmas.Bool.Decides.{nat_tests}
use Rattle.std.proofs.lemmas.List.{get_or-drop}
use Rattle.tetra_bits.specs.lemmas.Packing_lists.{packed_pads, packed_taken, pads_clean}
use Rattle.tetra_bits.specs.Numbered.{length-numbered}
use Rattle.tetra_bits.specs.Packed.{bytes_for, packed, packed_byte, unpacked_bit, HasPad}
use Rattle.tetra_bits.specs.declared.reading.Mark.{Mark}
use Rattle.tetra_bits.specs.declared.reading.Reading.{Reading}
use Rattle.tetra_cert.specs.lemmas.Places.{accepted_exactly}
use Rattle.tetra_cert.specs.Verdicts.{verdict_of}
use Rattle.tetra_cert.specs.declared.verdict.Verdict.{Verdict}
use Rattle.tetra_cert.specs.declared.verdict.Verdict.TheVariants.{Accepted, Refused}
use Rattle.tetra_parity.specs.Parity.{same_bits}
use Rattle.tetra_puncture.specs.lemmas.Certificates.{accepted_is_certified}
use Rattle.tetra_puncture.specs.Best.{best_of}
use Rattle.tetra_puncture.specs.Certified.{Fits, IsCertified}
use Rattle.tetra_puncture.specs.Rules.{IsAccepted}
use Rattle.tetra_puncture.specs.Spread.{spread_values}
use Rattle.tetra_bits.specs.Readings.{mark_byte}
use Rattle.tetra_records.specs.Readings.{two_bytes, table_bytes}
use Rattle.tetra_session.specs.Readers.{CodedPart}
use Rattle.tetra_audit.specs.Agreement.{IsCertificate}
use Rattle.tetra_audit.specs.Claims.{claimed_bits, claimed_table, has_pad, mark_part, metric_part, bits_part, table_part}
use Rattle.tetra_audit.specs.Parts.{part_why}
use Rattle.tetra_audit.specs.Verdicts.{first_of, fault_by, pad_fault, uncoded_fault, cert_fault, metric_fault, mark_fault}
use Rattle.tetra_audit.specs.declared.verdict.FieldWhy.{FieldWhy}
use Rattle.tetra_audit.proofs.Codes.{HasPart}
use Rattle.tetra_audit.proofs.Spelled.{table_back, table_again, rows_of_16, part_of_bits, part_of_table, parts_together, number_split}
use Rattle.tetra_audit.proofs.Tables.{length-claimed_table}
use Rattle.tetra_audit.proofs.Testing.{is_same, same_exactly, claimed_is, no_pad_found, pad_found, small_part, length-part}

-- a field as it is spelled
unfoldable pub spelled : Mark → ℕ → List Bool → List ℕ → List ℕ
spelled mark metric bits table = (mark_byte mark ∷ two_bytes metric) ++ packed bits ++ table

pub length-packed : (bits : List Bool) → length (packed bits) ≡ bytes_for (length bits)
unfolding packed
length-packed bits = length-numbered (packed_byte bits) (bytes_for (length bits))

-- its parts
module _ (mark : Mark) (metric : ℕ) (bits : List Bool) (table : List ℕ) (len : ℕ) (size : length bits ≡ len) where
  long : bytes_for len ≡ length (packed bits)
  long = ap bytes_for (sym size) ∙ sym (length-packed bits)

  pub bits_spelled : bits_part len (spelled mark metric bits table) ≡ packed bits
  unfolding spelled
  bits_spelled = part_of_bits (mark_byte mark) (metric / 256) (metric % 256) (packed bits) table (bytes_for len) long

  pub table_spelled : table_part len (spelled mark metric bits table) ≡ table
  unfolding spelled
  table_spelled = part_of_table (mark_byte mark) (metric / 256) (metric % 256) (packed bits) table (bytes_for len) long

  pub metric_spelled : metric_part (spelled mark metric bits table) ≡ metric
  unfolding spelled
  metric_spelled = omega arith

  pub mark_spelled : mark_part (spelled mark metric bits table) ≡ mark_byte mark
  unfolding spelled
  mark_spelled = refl

  pub pad_spelled : has_pad (bits_part len (spelled mark metric bits table)) len ≡ false
  pad_spelled = no_pad_found (bits_part len (spelled mark metric bits table)) len (packed_pads bits (bits_part len (spelled mark metric bits table)) len size (sym bits_spelled))

pub first_none : (x : Option FieldWhy) (xs : List (Option FieldWhy)) → first_of (x ∷ xs) ≡ None → (x ≡ None) × (first_of xs ≡ None)
first_none None xs e = (refl, e)
first_none (Some why) xs e = absurd (cc)

pub no_fault : (b : Bool) (why : FieldWhy) → cond b (Some why) None ≡ None → b ≡ false
no_fault true why e = absurd (cc)
no_fault false why e = refl

no_difference : (xs ys : List Bool) (why : FieldWhy) → cond (same_bits xs ys) None (Some why) ≡ None → xs ≡ ys
no_difference xs ys why e = at (same_bits xs ys) refl e
  where
    at : (b : Bool) → same_bits xs ys ≡ b → cond b None (Some why) ≡ None → xs ≡ ys
    at true is h = (same_exactly xs ys).0 is
    at false is h = absurd (cc)

is_accepted : (v : Verdict) → fault_by v ≡ None → v ≡ Accepted
is_accepted Accepted e = refl
is_accepted (Refused step state rule) e = absurd (cc)

pub same_number : (x y : ℕ) (why : FieldWhy) → cond (eqb x y) None (Some why) ≡ None → x ≡ y
same_number x y why e = at (eqb x y) refl e
  where
    at : (b : Bool) → eqb x y ≡ b → cond b None (Some why) ≡ None → x ≡ y
    at true is h = grind (arith, nat_tests)
    at false is h = absurd (cc)

-- the bits that bytes claim, where the reading has as many
abbrev pub claimed_of : Reading → List ℕ → List Bool
claimed_of reading bytes = claimed_bits (bits_part (length reading.bits) bytes) (length reading.bits)

length-claimed_of : (reading : Reading) (bytes : List ℕ) → length (claimed_of reading bytes) ≡ length reading.bits
unfolding claimed_bits
length-claimed_of reading bytes = length-numbered (unpacked_bit (bits_part (length reading.bits) bytes)) (length reading.bits)

-- the tests of a field of which a trellis reads a part
module _ (part : CodedPart) (soft : List ℤ) (reading : Reading) (bytes : List ℕ) where
  -- what they compare
  pub record Passes : Type 0 where
    pub clean : has_pad (bits_part (length reading.bits) bytes) (length reading.bits) ≡ false
    pub beside : part.uncoded (claimed_of reading bytes) ≡ part.uncoded reading.bits
    pub accepted : verdict_of part.plan (drop part.before soft) (part.coded (claimed_of reading bytes)) (claimed_table (table_part (length reading.bits) bytes) (part.plan.steps + 1)) ≡ Accepted
    pub metric : metric_part bytes ≡ reading.metric
    pub mark : mark_part bytes ≡ mark_byte reading.mark

  pub none_fails : Passes → part_why part soft reading bytes ≡ None
  unfolding part_why pad_fault uncoded_fault cert_fault metric_fault mark_fault
  none_fails p = rw (p.clean, (same_exactly _ _).1 p.beside, p.accepted, is_same _ _ p.metric, is_same _ _ p.mark) refl

  pub all_pass : part_why part soft reading bytes ≡ None → Passes
  unfolding part_why pad_fault uncoded_fault cert_fault metric_fault mark_fault
  all_pass none =
      let one = first_none _ _ none in
      let two = first_none _ _ one.1 in
      let three = first_none _ _ two.1 in
      let four = first_none _ _ three.1 in
      let five = first_none _ _ four.1 in
      record { clean = no_fault _ _ one.0; beside = no_difference _ _ _ two.0; accepted = is_accepted _ three.0; metric = same_number _ _ _ four.0; mark = same_number _ _ _ five.0 }

-- the field as it is defined, with a table
unfoldable pub defined : Reading → List (List ℕ) → List ℕ
defined reading table = spelled reading.mark reading.metric reading.bits (table_bytes table)

module _ (part : CodedPart) (count : ℕ) (soft : List ℤ) (reading : Reading) (has : HasPart part count soft reading) where
  -- it passes
  pub defined_passes : (table : List (List ℕ)) → IsCertificate part.plan (drop part.before soft) table → ((k : ℕ) → get_or (defined reading table) k 0 < 256) → 3 + bytes_for (length reading.bits) ≤ length (defined reading table) → Passes part soft reading (defined reading table)
  unfolding defined
  defined_passes table is small fits = record {
    clean = pad_spelled reading.mark reading.metric reading.bits (table_bytes table) len refl;
    beside = ap part.uncoded (sym bits_claimed);
    accepted = ap (λ m. verdict_of part.plan (drop part.before soft) (part.coded m) (claimed_table (table_part len bytes) (part.plan.steps + 1))) (sym bits_claimed)
        ∙ (ap (verdict_of part.plan (drop part.before soft) (part.coded reading.bits)) table_claimed
        ∙ (ap (λ m. verdict_of part.plan (drop part.before soft) m table) has.is_best ∙ (accepted_exactly part.plan (drop part.before soft) (best_of part.plan (drop part.before soft)) table).1 is.accepted));
    metric = metric_spelled reading.mark reading.metric reading.bits (table_bytes table) len refl;
    mark = mark_spelled reading.mark reading.metric reading.bits (table_bytes table) len refl;
  }
    where
      len : ℕ
      len = length reading.bits

      bytes : List ℕ
      bytes = spelled reading.mark reading.metric reading.bits (table_bytes table)

      spelled_bits : bits_part len bytes ≡ packed reading.bits
      spelled_bits = bits_spelled reading.mark reading.metric reading.bits (table_bytes table) len refl

      bits_claimed : reading.bits ≡ claimed_bits (bits_part len bytes) len
      bits_claimed = claimed_is (bits_part len bytes) len reading.bits (small_part bytes (bytes_for len) small) (length-part bytes (bytes_for len) fits) refl (sym spelled_bits)

      table_claimed : claimed_table (table_part len bytes) (part.plan.steps + 1) ≡ table
      table_claimed = ap (λ t. claimed_table t (part.plan.steps + 1)) (table_spelled reading.mark reading.metric reading.bits (table_bytes table) len refl) ∙ table_back table (part.plan.steps + 1) is.states is.rows

  -- a field that passes is so spelled
  module _ (bytes : List ℕ) (small : (k : ℕ) → get_or bytes k 0 < 256) (size : length bytes ≡ 3 + bytes_for (length reading.bits) + 32 * (part.plan.steps + 1)) (passes : Passes part soft reading bytes) where
    unfoldable pub table : List (List ℕ)
    table = claimed_table (table_part (length reading.bits) bytes) (part.plan.steps + 1)

    fits : Fits part.plan (drop part.before soft) (part.coded (claimed_of reading bytes))
    fits =
        let few : 6 ≤ part.plan.steps = has.sizes.few_steps.0 in
        let long : length (part.coded (claimed_of reading bytes)) ≡ part.plan.steps - 4 = has.message (claimed_of reading bytes) (length-claimed_of reading bytes ∙ has.bits) in
        record { sizes = has.sizes; rise = has.rise; lie = has.lie; message = omega arith; values = has.sent }

    accepted : IsAccepted part.plan (spread_values part.plan (drop part.before soft)) (part.coded (claimed_of reading bytes)) table
    unfolding table
    accepted = (accepted_exactly part.plan (drop part.before soft) (part.coded (claimed_of reading bytes)) table).0 passes.accepted

    certified : IsCertified part.plan (drop part.before soft) (part.coded (claimed_of reading bytes)) table
    certified = accepted_is_certified part.plan (drop part.before soft) (part.coded (claimed_of reading bytes)) table fits accepted

    pub is_certificate : IsCertificate part.plan (drop part.before soft) table
    unfolding table
    is_certificate = record {
      rows = length-claimed_table (table_part (length reading.bits) bytes) (part.plan.steps + 1);
      states = rows_of_16 (table_part (length reading.bits) bytes) (part.plan.steps + 1);
      accepted = subst (λ (m : List Bool). IsAccepted part.plan (spread_values part.plan (drop part.before soft)) m table) certified.is_best accepted;
    }

    -- the bits that are claimed are those of the reading
    claimed_same : claimed_of reading bytes ≡ reading.bits
    claimed_same = has.apart (claimed_of reading bytes) reading.bits (length-claimed_of reading bytes ∙ has.bits) has.bits passes.beside (certified.is_best ∙ sym has.is_best)

    bits_again : packed reading.bits ≡ bits_part (length reading.bits) bytes
    unfolding claimed_bits
    bits_again =
        let claimed : List ℕ = bits_part (length reading.bits) bytes in
        let none : HasPad claimed (length reading.bits) → ⊥ = λ h. let clash : true ≡ false = sym (pad_found claimed (length reading.bits) h) ∙ passes.clean in cc in
        ap packed (sym claimed_same) ∙ packed_taken claimed (length reading.bits) (small_part bytes (bytes_for (length reading.bits)) small)
        (length-part bytes (bytes_for (length reading.bits)) (omega arith)) (pads_clean claimed (length reading.bits) none)

    small_behind : (k : ℕ) → get_or (table_part (length reading.bits) bytes) k 0 < 256
    small_behind k = let e : get_or (table_part (length reading.bits) bytes) k 0 ≡ get_or bytes (3 + bytes_for (length reading.bits) + k) 0 = get_or-drop (3 + bytes_for (length reading.bits)) bytes k 0 in omega (arith, small (3 + bytes_for (length reading.bits) + k))

    rows_again : table_bytes table ≡ table_part (length reading.bits) bytes
    unfolding table
    rows_again =
        table_again (table_part (length reading.bits) bytes) (part.plan.steps + 1) small_behind
        (let behind : length (table_part (length reading.bits) bytes) ≡ length bytes - (3 + bytes_for (length reading.bits)) = length-drop (3 + bytes_for (length reading.bits)) bytes in omega arith)

    pub is_defined : defined reading table ≡ bytes
    unfolding defined spelled
    is_defined =
        let metric : ℕ = reading.metric in
        let halves = number_split (get_or bytes 1 0) (get_or bytes 2 0) metric (small 2) (sym passes.metric) in
        ap (λ m. (m ∷ metric / 256 ∷ metric % 256 ∷ []) ++ packed reading.bits ++ table_bytes table) (sym passes.mark)
        ∙ (ap (λ x. (get_or bytes 0 0 ∷ x ∷ metric % 256 ∷ []) ++ packed reading.bits ++ table_bytes table) halves.0
        ∙ (ap (λ y. (get_or bytes 0 0 ∷ get_or bytes 1 0 ∷ y ∷ []) ++ packed reading.bits ++ table_bytes table) halves.1
        ∙ (ap (λ p. (get_or bytes 0 0 ∷ get_or bytes 1 0 ∷ get_or bytes 2 0 ∷ []) ++ p ++ table_bytes table) bits_again
        ∙ (ap (λ behind. (get_or bytes 0 0 ∷ get_or bytes 1 0 ∷ get_or bytes 2 0 ∷ []) ++ bits_part (length reading.bits) bytes ++ behind) rows_again
        ∙ parts_together bytes (bytes_for (length reading.bits)) (omega arith)))))
