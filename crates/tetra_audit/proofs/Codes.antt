-- The codes of the fields.
use Rattle.std.proofs.Common.{◌≡◌, ℕ, ◌+◌, ◌-◌, ◌≤◌, Bool, false, nat_eq, List, length, take, drop, length-drop, ℤ, Some, arith, refl, sym, ap, subst, ◌∙◌}
use Rattle.std.proofs.lemmas.List.{length-take-le}
use Rattle.std.proofs.lemmas.Bool.Decides.{nat_tests}
use Rattle.tetra_bits.specs.Cost.{metric}
use Rattle.tetra_bits.specs.Plain.{best_plain}
use Rattle.tetra_bits.specs.declared.reading.Reading.{Reading}
use Rattle.tetra_bits.specs.lemmas.Best.{best_is_first}
use Rattle.tetra_channels.specs.Channels.{Channel}
use Rattle.tetra_channels.specs.Fields.{coded_reading}
use Rattle.tetra_puncture.specs.Best.{best_of}
use Rattle.tetra_parity.specs.declared.kind.Parity.TheVariants.{Four, Eight}
use Rattle.tetra_puncture.specs.Places.{speech_whole, speech_half}
use Rattle.tetra_puncture.specs.Plan.{HasSizes, PlacesRise, PlacesLie}
use Rattle.tetra_puncture.specs.ToGo.{potentials_of}
use Rattle.tetra_puncture.specs.lemmas.Shapes.{length-best_of}
use Rattle.tetra_puncture.specs.lemmas.SpeechHalf.{speech_half_sizes, speech_half_rise, speech_half_lie}
use Rattle.tetra_puncture.specs.lemmas.SpeechWhole.{speech_whole_sizes, speech_whole_rise, speech_whole_lie}
use Rattle.tetra_speech.specs.Frames.{whole_uncoded, whole_coded, whole_bits, half_uncoded, half_coded, half_bits}
use Rattle.tetra_speech.specs.Reading.{whole_reading, half_reading}
use Rattle.tetra_speech.specs.lemmas.Parts.{parts_undone, trellis_whole, trellis_half, uncoded_whole, uncoded_half}
use Rattle.tetra_speech.specs.lemmas.Sizes.{whole_size, whole_coded_size, half_size, half_coded_size}
use Rattle.tetra_session.specs.Readers.{CodedPart, whole_part, whole_speech_part, half_speech_part, Trellis, reader}
use Rattle.tetra_session.specs.lemmas.Plans.{HasPlanLaws, HasReaderLaws, reader_laws}
use Rattle.tetra_settings.specs.Readings.{rows_for, sizes, message_bits, certificate_rows}
use Rattle.tetra_settings.specs.declared.readings.FieldName.{FieldName}
use Rattle.tetra_audit.specs.Parts.{IsSpeech}

-- the numbers of a field and of its channel agree, and the plan of the channel has its laws
pub laws_of : (name : FieldName) (channel : Channel) → reader name ≡ Trellis channel → HasPlanLaws channel (sizes name)
laws_of name channel e = subst (λ by_. HasReaderLaws by_ (sizes name)) e (reader_laws name)

rows_are : (steps : ℕ) → 6 ≤ steps → rows_for steps ≡ steps + 1
rows_are steps h = let some : nat_eq steps 0 ≡ false = grind (arith, nat_tests) in rw some refl

pub rows_of : (name : FieldName) (channel : Channel) → HasPlanLaws channel (sizes name) → certificate_rows name ≡ channel.plan.steps + 1
rows_of name channel laws =
    let e : channel.plan.steps ≡ (sizes name).steps = laws.steps in
    rows_are (sizes name).steps (omega (arith, laws.sizes.few_steps)) ∙ omega arith

-- What the audit needs of the part that a trellis reads, in a field of len bits that is read so: the laws of its plan;
-- the message in the reading is the first-least one, beside the costs to go; any len bits have in them a message of the
-- length of the plan; and they are told apart by their uncoded bits and their message
pub record HasPart (part : CodedPart) (len : ℕ) (soft : List ℤ) (reading : Reading) : Type 0 where
  pub sizes : HasSizes part.plan
  pub rise : PlacesRise part.plan
  pub lie : PlacesLie part.plan
  pub sent : length (drop part.before soft) ≡ part.plan.sent
  pub bits : length reading.bits ≡ len
  pub is_best : part.coded reading.bits ≡ best_of part.plan (drop part.before soft)
  pub potentials : reading.potentials ≡ Some (potentials_of part.plan (drop part.before soft))
  pub message : (bits : List Bool) → length bits ≡ len → length (part.coded bits) ≡ part.plan.steps - 4
  pub apart : (xs ys : List Bool) → length xs ≡ len → length ys ≡ len → part.uncoded xs ≡ part.uncoded ys → part.coded xs ≡ part.coded ys → xs ≡ ys

pub length-best_plain : (values : List ℤ) → length (best_plain values) ≡ length values
unfolding best_plain
length-best_plain values = let first = best_is_first (length values) (metric values) in first.has_length

pub length-coded_bits : (channel : Channel) (soft : List ℤ) → length (coded_reading channel soft).bits ≡ channel.plan.steps - 4
unfolding coded_reading
length-coded_bits channel soft = length-best_of channel.plan soft

-- so it is with a channel
pub has_whole : (name : FieldName) (channel : Channel) (soft : List ℤ) → HasPlanLaws channel (sizes name) → length soft ≡ channel.plan.sent → HasPart (whole_part channel.plan) (message_bits name) soft (coded_reading channel soft)
unfolding coded_reading
has_whole name channel soft laws sent = record {
  sizes = laws.sizes;
  rise = laws.rise;
  lie = laws.lie;
  sent = sent;
  bits = omega (arith, length-coded_bits channel soft, laws.bits);
  is_best = refl;
  potentials = refl;
  message = λ bits size. omega (arith, laws.bits);
  apart = λ xs ys ex ey beside coded. coded;
}

-- a part beside uncoded bits, in a field of len bits: the bits are found again from what is uncoded and what is coded of
-- them, and these from the bits
record IsParted (part : CodedPart) (len : ℕ) (together : List Bool → List Bool → List Bool) : Type 0 where
  pub sizes : HasSizes part.plan
  pub rise : PlacesRise part.plan
  pub lie : PlacesLie part.plan
  pub parts : (uncoded coded : List Bool) → length uncoded ≡ part.before → length coded ≡ part.plan.steps - 4
      → (part.uncoded (together uncoded coded) ≡ uncoded) × (part.coded (together uncoded coded) ≡ coded)
  pub again : (bits : List Bool) → length bits ≡ len → together (part.uncoded bits) (part.coded bits) ≡ bits
  pub long : (uncoded coded : List Bool) → length coded ≡ part.plan.steps - 4 → length (together uncoded coded) ≡ len
  pub message : (bits : List Bool) → length bits ≡ len → length (part.coded bits) ≡ part.plan.steps - 4

whole_parted : IsParted whole_speech_part 282 whole_bits
whole_parted = record {
  sizes = speech_whole_sizes;
  rise = speech_whole_rise;
  lie = speech_whole_lie;
  parts = λ uncoded coded lu lc. parts_undone.whole_parts uncoded coded lu lc;
  again = λ bits h. parts_undone.whole_again bits h;
  long = λ uncoded coded h. whole_size uncoded coded h;
  message = λ bits h. whole_coded_size bits h;
}

half_parted : IsParted half_speech_part 141 half_bits
half_parted = record {
  sizes = speech_half_sizes;
  rise = speech_half_rise;
  lie = speech_half_lie;
  parts = λ uncoded coded lu lc. parts_undone.half_parts uncoded coded lu lc;
  again = λ bits h. parts_undone.half_again bits h;
  long = λ uncoded coded h. half_size uncoded coded h;
  message = λ bits h. half_coded_size bits h;
}

-- and so it is with such a part, whose uncoded bits are those of the signs
module _ (part : CodedPart) (len : ℕ) (together : List Bool → List Bool → List Bool) (parted : IsParted part len together) (soft : List ℤ) (size : length soft ≡ part.before + part.plan.sent) where
  abbrev plain : List Bool
  plain = best_plain (take part.before soft)

  abbrev coded : List Bool
  coded = best_of part.plan (drop part.before soft)

  many : length coded ≡ part.plan.steps - 4
  many = length-best_of part.plan (drop part.before soft)

  read_parts : (part.uncoded (together plain coded) ≡ plain) × (part.coded (together plain coded) ≡ coded)
  read_parts =
      let front : length (take part.before soft) ≡ part.before = length-take-le part.before soft (omega (arith, size)) in
      parted.parts plain coded (length-best_plain (take part.before soft) ∙ front) many

  has_parted : (reading : Reading) → reading.bits ≡ together plain coded → reading.potentials ≡ Some (potentials_of part.plan (drop part.before soft)) → HasPart part len soft reading
  has_parted reading eb ep = record {
    sizes = parted.sizes;
    rise = parted.rise;
    lie = parted.lie;
    sent = omega (arith, length-drop part.before soft, size);
    bits = ap length eb ∙ parted.long plain coded many;
    is_best = ap part.coded eb ∙ read_parts.1;
    potentials = ep;
    message = parted.message;
    apart = λ xs ys ex ey beside message.
        sym (parted.again xs ex) ∙ ap (λ u. together u (part.coded xs)) beside ∙ ap (together (part.uncoded ys)) message ∙ parted.again ys ey;
  }

-- speech in a whole slot
pub has_whole_speech : (soft : List ℤ) → length soft ≡ 432 → HasPart whole_speech_part 282 soft (whole_reading soft)
unfolding whole_reading
has_whole_speech soft size = has_parted whole_speech_part 282 whole_bits whole_parted soft size (whole_reading soft) refl refl

pub whole_is_speech : (soft : List ℤ) → length soft ≡ 432 → IsSpeech 2 Eight speech_whole whole_uncoded whole_coded soft (whole_reading soft)
unfolding whole_reading
whole_is_speech soft size = record {
  uncoded_is = λ bits h. uncoded_whole bits h;
  coded_is = λ bits h. trellis_whole bits h;
  bits = (has_whole_speech soft size).bits;
  plain = (read_parts whole_speech_part 282 whole_bits whole_parted soft size).0;
  metric = refl;
  mark = refl;
}

-- and in half a slot
pub has_half_speech : (soft : List ℤ) → length soft ≡ 216 → HasPart half_speech_part 141 soft (half_reading soft)
unfolding half_reading
has_half_speech soft size = has_parted half_speech_part 141 half_bits half_parted soft size (half_reading soft) refl refl

pub half_is_speech : (soft : List ℤ) → length soft ≡ 216 → IsSpeech 1 Four speech_half half_uncoded half_coded soft (half_reading soft)
unfolding half_reading
half_is_speech soft size = record {
  uncoded_is = λ bits h. uncoded_half bits (λ e. omega (arith, h, e));
  coded_is = λ bits h. trellis_half bits (λ e. omega (arith, h, e));
  bits = (has_half_speech soft size).bits;
  plain = (read_parts half_speech_part 141 half_bits half_parted soft size).0;
  metric = refl;
  mark = refl;
}
