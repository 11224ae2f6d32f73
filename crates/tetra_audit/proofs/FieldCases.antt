-- The tests, the reading and the length of a field by its name and its values.
use Rattle.std.proofs.Common.{◌≡◌, ◌⊎◌, inl, inr, ℕ, ◌+◌, ◌*◌, Bool, false, List, length, replicate, ℤ, Option, Some, None, arith, refl, sym, ap, subst, ◌∙◌}
use Rattle.std.specs.Prelude.{MatchOption}
use Rattle.std.proofs.Math.ListN.{length-replicate}
use Rattle.tetra_bits.specs.Cost.{metric}
use Rattle.tetra_bits.specs.Digits.{digits}
use Rattle.tetra_bits.specs.Packed.{bytes_for}
use Rattle.tetra_bits.specs.Plain.{best_plain}
use Rattle.tetra_bits.specs.declared.reading.Mark.TheVariants.{Unchecked, NotYet}
use Rattle.tetra_bits.specs.declared.reading.Reading.{Reading}
use Rattle.tetra_bits.specs.lemmas.Best.{best_is_first}
use Rattle.tetra_channels.specs.Channels.{Channel, bsch, hu, half, full, data48, data24}
use Rattle.tetra_channels.specs.Fields.{access_reading, raw_reading}
use Rattle.tetra_rm.specs.Code.{access_metric, best_access}
use Rattle.tetra_speech.specs.Reading.{whole_reading, half_reading}
use Rattle.tetra_session.specs.Fronts.{IsFrontField}
use Rattle.tetra_session.specs.Readers.{whole_speech_part, half_speech_part, CodedPart, Reader, Trellis, reader, coded_part, whole_part, read_by, field_reading, not_yet}
use Rattle.tetra_session.specs.declared.front.FrontField.{FrontField}
use Rattle.tetra_session.specs.lemmas.Plans.{HasPlanLaws}
use Rattle.tetra_settings.specs.Readings.{sizes, message_bits, certificate_rows, MayBeNotYet}
use Rattle.tetra_settings.specs.declared.readings.FieldName.{FieldName}
use Rattle.tetra_settings.specs.declared.readings.FieldName.TheVariants.{Aach, Sync, Half, Hu, Full, D72, D48, D24, Whole, Single}
use Rattle.tetra_audit.specs.Agreement.{AreCertified}
use Rattle.tetra_audit.specs.Fields.{claimed_rows, field_length}
use Rattle.tetra_audit.specs.Parts.{plain_why, part_why, coded_why}
use Rattle.tetra_audit.specs.Verdicts.{first_of, field_tests, field_why, plain_tests}
use Rattle.tetra_audit.proofs.Codes.{length-best_plain, has_whole_speech, has_half_speech, HasPart, has_whole, laws_of, rows_of}

-- the length of a field
pub length_there : (field : FrontField) (name : FieldName) (soft : List ℤ) → field.name ≡ name → field.soft ≡ Some soft → field_length field ≡ 3 + bytes_for (message_bits name) + 32 * certificate_rows name
unfolding field_length
length_there field name soft e f = rw (e, f) refl

pub length_not_yet : (field : FrontField) → field.soft ≡ None → field_length field ≡ 3 + bytes_for (message_bits field.name)
unfolding field_length
length_not_yet field f = rw f (omega arith)

-- its values
pub values_there : (field : FrontField) (soft : List ℤ) → field.soft ≡ Some soft → IsFrontField field → length soft ≡ (sizes field.name).values
values_there field soft f is = subst (λ (values : Option (List ℤ)). MatchOption values (MayBeNotYet field.name) (λ v. length v ≡ (sizes field.name).values)) f is.soft

-- a field of which a trellis reads a part
pub record IsCoded (rows : List ℕ) (name : FieldName) (values : Option (List ℤ)) : Type 0 where
  pub part : CodedPart
  pub soft : List ℤ
  pub of_part : coded_part (reader name) ≡ Some part
  pub there : values ≡ Some soft
  pub many : certificate_rows name ≡ part.plan.steps + 1
  pub has : HasPart part (message_bits name) soft (field_reading rows name values)

-- a field whose bits come by no trellis
pub record IsPlain (rows : List ℕ) (name : FieldName) (values : Option (List ℤ)) : Type 0 where
  pub bits : length (field_reading rows name values).bits ≡ message_bits name
  pub none : claimed_rows name values ≡ 0
  pub tests : (reading : Reading) (bytes : List ℕ) → field_tests (coded_part (reader name)) values reading bytes ≡ plain_tests reading bytes
  pub certified : AreCertified (coded_part (reader name)) values None
  pub alone : (field_reading rows name values).potentials ≡ None
  pub only : (potentials : Option (List (List ℕ))) → AreCertified (coded_part (reader name)) values potentials → potentials ≡ None

-- a field that is not there yet
tests_not_yet : (part : Option CodedPart) (reading : Reading) (bytes : List ℕ) → field_tests part None reading bytes ≡ plain_tests reading bytes
tests_not_yet None reading bytes = refl
tests_not_yet (Some part) reading bytes = refl

nothing_certified : (part : Option CodedPart) → AreCertified part None None
nothing_certified None = tt
nothing_certified (Some part) = tt

no_table : (part : Option CodedPart) (potentials : Option (List (List ℕ))) → AreCertified part None potentials → potentials ≡ None
no_table part None is = refl
no_table None (Some table) is = absurd is
no_table (Some part) (Some table) is = absurd is

no_code : (soft : List ℤ) (potentials : Option (List (List ℕ))) → AreCertified None (Some soft) potentials → potentials ≡ None
no_code soft None is = refl
no_code soft (Some table) is = absurd is

not_yet_is : (rows : List ℕ) (name : FieldName) → IsPlain rows name None
unfolding not_yet
not_yet_is rows name = record {
  bits = length-replicate (message_bits name) false;
  none = refl;
  tests = λ reading bytes. tests_not_yet (coded_part (reader name)) reading bytes;
  certified = nothing_certified (coded_part (reader name));
  alone = refl;
  only = λ potentials is. no_table (coded_part (reader name)) potentials is;
}

access_is : (rows : List ℕ) (soft : List ℤ) → IsPlain rows Aach (Some soft)
unfolding access_reading best_access
access_is rows soft = let first = best_is_first 14 (access_metric rows soft) in record {
  bits = first.has_length;
  none = refl;
  tests = λ reading bytes. refl;
  certified = tt;
  alone = refl;
  only = λ potentials is. no_code soft potentials is;
}

raw_is : (rows : List ℕ) (soft : List ℤ) → length soft ≡ 432 → IsPlain rows D72 (Some soft)
unfolding raw_reading
raw_is rows soft size = record {
  bits = length-best_plain soft ∙ size;
  none = refl;
  tests = λ reading bytes. refl;
  certified = tt;
  alone = refl;
  only = λ potentials is. no_code soft potentials is;
}

coded_is : (rows : List ℕ) (name : FieldName) (soft : List ℤ) (channel : Channel) → reader name ≡ Trellis channel → length soft ≡ channel.plan.sent → IsCoded rows name (Some soft)
coded_is rows name soft channel e size =
    let laws : HasPlanLaws channel (sizes name) = laws_of name channel e in
    record {
      part = whole_part channel.plan;
      soft = soft;
      of_part = ap coded_part e;
      there = refl;
      many = rows_of name channel laws;
      has = subst (λ (by_ : Reader). HasPart (whole_part channel.plan) (message_bits name) soft (read_by by_ rows soft)) (sym e) (has_whole name channel soft laws size);
    }

whole_is : (rows : List ℕ) (soft : List ℤ) → length soft ≡ 432 → IsCoded rows Whole (Some soft)
whole_is rows soft size = record {
  part = whole_speech_part;
  soft = soft;
  of_part = refl;
  there = refl;
  many = refl;
  has = has_whole_speech soft size;
}

single_is : (rows : List ℕ) (soft : List ℤ) → length soft ≡ 216 → IsCoded rows Single (Some soft)
single_is rows soft size = record {
  part = half_speech_part;
  soft = soft;
  of_part = refl;
  there = refl;
  many = refl;
  has = has_half_speech soft size;
}

-- each field is one or the other
by_cases : (rows : List ℕ) (name : FieldName) (values : Option (List ℤ)) → MatchOption values (MayBeNotYet name) (λ v. length v ≡ (sizes name).values)
    → IsPlain rows name values ⊎ IsCoded rows name values
by_cases rows name None is = inl (not_yet_is rows name)
by_cases rows Aach (Some soft) is = inl (access_is rows soft)
by_cases rows Sync (Some soft) is = inr (coded_is rows Sync soft bsch refl is)
by_cases rows Half (Some soft) is = inr (coded_is rows Half soft half refl is)
by_cases rows Hu (Some soft) is = inr (coded_is rows Hu soft hu refl is)
by_cases rows Full (Some soft) is = inr (coded_is rows Full soft full refl is)
by_cases rows D72 (Some soft) is = inl (raw_is rows soft is)
by_cases rows D48 (Some soft) is = inr (coded_is rows D48 soft data48 refl is)
by_cases rows D24 (Some soft) is = inr (coded_is rows D24 soft data24 refl is)
by_cases rows Whole (Some soft) is = inr (whole_is rows soft is)
by_cases rows Single (Some soft) is = inr (single_is rows soft is)

pub plain_or_coded : (rows : List ℕ) (field : FrontField) → IsFrontField field → IsPlain rows field.name field.soft ⊎ IsCoded rows field.name field.soft
plain_or_coded rows field is = by_cases rows field.name field.soft is.soft

-- the tests of a field of which a trellis reads a part, of one of a channel, of one without a trellis, and of an access
-- field
pub why_part : (rows : List ℕ) (field : FrontField) (bytes : List ℕ) (coded : IsCoded rows field.name field.soft) → part_why coded.part coded.soft (field_reading rows field.name field.soft) bytes ≡ field_why rows field bytes
unfolding field_why part_why
why_part rows field bytes coded =
    ap (λ (v : Option (List ℤ)). first_of (field_tests (Some coded.part) v (field_reading rows field.name field.soft) bytes)) (sym coded.there)
    ∙ ap (λ (p : Option CodedPart). first_of (field_tests p field.soft (field_reading rows field.name field.soft) bytes)) (sym coded.of_part)

pub why_coded : (rows : List ℕ) (field : FrontField) (soft : List ℤ) (channel : Channel) (bytes : List ℕ) → reader field.name ≡ Trellis channel → field.soft ≡ Some soft
    → coded_why channel soft bytes ≡ field_why rows field bytes
unfolding field_why part_why
why_coded rows field soft channel bytes e f = rw (f, e) refl

pub why_whole : (rows : List ℕ) (field : FrontField) (soft : List ℤ) (bytes : List ℕ) → field.name ≡ Whole → field.soft ≡ Some soft
    → part_why whole_speech_part soft (whole_reading soft) bytes ≡ field_why rows field bytes
unfolding field_why part_why
why_whole rows field soft bytes e f = rw (f, e) refl

pub why_single : (rows : List ℕ) (field : FrontField) (soft : List ℤ) (bytes : List ℕ) → field.name ≡ Single → field.soft ≡ Some soft
    → part_why half_speech_part soft (half_reading soft) bytes ≡ field_why rows field bytes
unfolding field_why part_why
why_single rows field soft bytes e f = rw (f, e) refl

pub why_plain : (rows : List ℕ) (field : FrontField) (bytes : List ℕ) → IsPlain rows field.name field.soft → plain_why (field_reading rows field.name field.soft) bytes ≡ field_why rows field bytes
unfolding field_why plain_why
why_plain rows field bytes plain = sym (ap first_of (plain.tests (field_reading rows field.name field.soft) bytes))

pub why_not_yet : (rows : List ℕ) (field : FrontField) (bytes : List ℕ) → field.soft ≡ None
    → plain_why (record { mark = NotYet; metric = 0; bits = replicate (message_bits field.name) false; potentials = None }) bytes ≡ field_why rows field bytes
unfolding field_why plain_why not_yet
why_not_yet rows field bytes f = rw f (sym (ap first_of (tests_not_yet (coded_part (reader field.name)) (not_yet field.name) bytes)))

pub why_access : (rows : List ℕ) (field : FrontField) (soft : List ℤ) (bytes : List ℕ) → field.name ≡ Aach → field.soft ≡ Some soft
    → plain_why (access_reading rows soft) bytes ≡ field_why rows field bytes
unfolding field_why plain_why
why_access rows field soft bytes e f = rw (f, e) refl

pub why_raw : (rows : List ℕ) (field : FrontField) (soft : List ℤ) (bytes : List ℕ) → field.name ≡ D72 → field.soft ≡ Some soft
    → plain_why (record { mark = Unchecked; metric = 0; bits = best_plain soft; potentials = None }) bytes ≡ field_why rows field bytes
unfolding field_why plain_why raw_reading
why_raw rows field soft bytes e f = rw (f, e) refl

pub is_access : (rows : List ℕ) (soft : List ℤ) (message metric : ℕ) (bits : List Bool) → digits 14 message ≡ best_access rows soft → metric ≡ access_metric rows soft (digits 14 message) → bits ≡ digits 14 message
    → ◌≡◌ {A = Reading} (record { mark = Unchecked; metric = metric; bits = bits; potentials = None }) (access_reading rows soft)
unfolding access_reading
is_access rows soft message metric bits best rate eb = rw (eb, rate, best) refl
