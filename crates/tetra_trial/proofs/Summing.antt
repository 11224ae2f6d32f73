-- The tally of a trial, one slot on.
use Rattle.std.proofs.Common.{ℕ, ◌+◌, ◌≡◌, Bool, List, [], ◌∷◌, Option, arith, refl, sym, ap, ◌∙◌, add-one}
use Rattle.std.specs.Prelude.{sum_by, zip}
use Rattle.tetra_bits.specs.Sums.{sum_below, bit_number}
use Rattle.tetra_bits.specs.declared.reading.Mark.{Mark}
use Rattle.tetra_bits.specs.declared.reading.Mark.TheVariants.{Good as GoodMark, Bad as BadMark, Unchecked as UncheckedMark, NotYet as NotYetMark}
use Rattle.tetra_settings.specs.declared.readings.Field.{Field}
use Rattle.tetra_settings.specs.declared.readings.SlotReading.{SlotReading}
use Rattle.tetra_settings.specs.declared.types.Settings.{Settings}
use Rattle.tetra_gen.specs.Made.{made}
use Rattle.tetra_trial.specs.declared.tally.Comparison.{Comparison}
use Rattle.tetra_trial.specs.declared.tally.Comparison.TheVariants.{Equal as IsEqual, Differ as IsDifferent, Other as IsOther}
use Rattle.tetra_trial.specs.declared.tally.Tally.{Tally}
use Rattle.tetra_trial.specs.Columns.{Column, Good, Bad, Unchecked, NotYet, Equal, Differ, Other, Metric, adds}
use Rattle.tetra_trial.specs.Fields.{comparison}
use Rattle.tetra_trial.specs.Sent.{has_letter, in_place}
use Rattle.tetra_trial.specs.Tallies.{no_slot, with_letter, with_mark, with_comparison, with_field, with_fields, AtMost}
use Rattle.tetra_trial.specs.Trials.{blocks_before, reading_of, slot_adds, kind_adds, tally_of}
use Rattle.tetra_trial.proofs.Adding.{number, number_fields}

-- a sum with one term more
pub sum_more : (n : ℕ) (f : ℕ → ℕ) → sum_below (n + 1) f ≡ sum_below n f + f n
unfolding sum_below
sum_more n f = rw add-one refl

-- k slots are counted
pub record Counted (settings : Settings) (k : ℕ) (t : Tally) : Type 0 where
  pub slots : t.slots ≡ settings.slots
  pub kinds : t.kinds ≡ sum_below k (kind_adds settings)
  pub columns : (column : Column) → number column t ≡ sum_below k (slot_adds settings column)

pub none_counted : (settings : Settings) → Counted settings 0 (no_slot settings.slots)
unfolding sum_below
none_counted settings = record {
  slots = refl;
  kinds = refl;
  columns = λ column. elim column as (λ c. number c (no_slot settings.slots) ≡ 0) [
    | Good ↦ refl
    | Bad ↦ refl
    | Unchecked ↦ refl
    | NotYet ↦ refl
    | Equal ↦ refl
    | Differ ↦ refl
    | Other ↦ refl
    | Metric ↦ refl
  ];
}

pub none_most : (slots top : ℕ) → AtMost top (no_slot slots)
none_most slots top = record { kinds = omega arith; good = omega arith; bad = omega arith; unchecked = omega arith; notyet = omega arith; equal = omega arith; differ = omega arith; other = omega arith; metric = omega arith }

-- fields leave the slots and the kinds
marked_rest : (mark : Mark) (t : Tally) → ((with_mark mark t).slots ≡ t.slots) × ((with_mark mark t).kinds ≡ t.kinds)
marked_rest GoodMark t = (refl, refl)
marked_rest BadMark t = (refl, refl)
marked_rest UncheckedMark t = (refl, refl)
marked_rest NotYetMark t = (refl, refl)

compared_rest : (compared : Comparison) (t : Tally) → ((with_comparison compared t).slots ≡ t.slots) × ((with_comparison compared t).kinds ≡ t.kinds)
compared_rest IsEqual t = (refl, refl)
compared_rest IsDifferent t = (refl, refl)
compared_rest IsOther t = (refl, refl)

field_rest : (field : Field) (sent : Option (List Bool)) (t : Tally) → ((with_field field sent t).slots ≡ t.slots) × ((with_field field sent t).kinds ≡ t.kinds)
unfolding with_field
field_rest field sent t =
    let marked = with_mark field.reading.mark t in
    let a = marked_rest field.reading.mark t in
    let b = compared_rest (comparison field.reading.bits sent) marked in
    (b.0 ∙ a.0, b.1 ∙ a.1)

fields_rest : (fields : List Field) (sent : List (Option (List Bool))) (t : Tally) → ((with_fields fields sent t).slots ≡ t.slots) × ((with_fields fields sent t).kinds ≡ t.kinds)
fields_rest [] sent t = (refl, refl)
fields_rest (field ∷ fields) [] t = (refl, refl)
fields_rest (field ∷ fields) (s ∷ sent) t =
    let a = field_rest field s t in
    let b = fields_rest fields sent (with_field field s t) in
    (b.0 ∙ a.0, b.1 ∙ a.1)

-- a letter adds to no column
letter_rest : (same : Bool) (column : Column) (t : Tally) → number column (with_letter same t) ≡ number column t
letter_rest same Good t = refl
letter_rest same Bad t = refl
letter_rest same Unchecked t = refl
letter_rest same NotYet t = refl
letter_rest same Equal t = refl
letter_rest same Differ t = refl
letter_rest same Other t = refl
letter_rest same Metric t = refl

-- one slot on
pub counted_more : (settings : Settings) (k : ℕ) (t : Tally) (reading : SlotReading) → reading ≡ reading_of settings k → Counted settings k t
    → Counted settings (k + 1) (with_fields reading.fields.items (in_place settings (blocks_before settings k) (made settings k) reading.letter)
    (with_letter (has_letter (made settings k) reading.letter) t))
unfolding slot_adds kind_adds
counted_more settings k t reading e h =
    let same = has_letter (made settings k) reading.letter in
    let sent = in_place settings (blocks_before settings k) (made settings k) reading.letter in
    let rest = fields_rest reading.fields.items sent (with_letter same t) in
    let here : bit_number same ≡ kind_adds settings k = ap (λ r. bit_number (has_letter (made settings k) r.letter)) e in
    record {
      slots = rest.0 ∙ h.slots;
      kinds = rest.1 ∙ ap (λ n. n + bit_number same) h.kinds ∙ ap (λ n. sum_below k (kind_adds settings) + n) here ∙ sym (sum_more k (kind_adds settings));
      columns = λ column.
          let fields = number_fields column reading.fields.items sent (with_letter same t) in
          let slot = ap (λ r. sum_by (λ pair. adds column pair.0 pair.1) (zip r.fields.items (in_place settings (blocks_before settings k) (made settings k) r.letter))) e in
          fields ∙ ap (λ n. n + sum_by (λ pair. adds column pair.0 pair.1) (zip reading.fields.items sent)) (letter_rest same column t ∙ h.columns column)
          ∙ ap (λ n. sum_below k (slot_adds settings column) + n) slot ∙ sym (sum_more k (slot_adds settings column));
    }

-- a tally is given by its numbers
tally_is : (t : Tally) {slots kinds good bad unchecked notyet equal differ other metric : ℕ} → t.slots ≡ slots → t.kinds ≡ kinds → t.good ≡ good → t.bad ≡ bad
    → t.unchecked ≡ unchecked → t.notyet ≡ notyet → t.equal ≡ equal → t.differ ≡ differ → t.other ≡ other → t.metric ≡ metric
    → t ≡ record { slots = slots; kinds = kinds; good = good; bad = bad; unchecked = unchecked; notyet = notyet; equal = equal; differ = differ; other = other; metric = metric }
tally_is t a b d e f g i j l m = rw (← a, ← b, ← d, ← e, ← f, ← g, ← i, ← j, ← l, ← m) refl

-- all slots are counted
pub all_counted : (settings : Settings) (t : Tally) → Counted settings settings.slots t → t ≡ tally_of settings
unfolding tally_of
all_counted settings t h =
    tally_is t h.slots h.kinds (h.columns Good) (h.columns Bad) (h.columns Unchecked) (h.columns NotYet) (h.columns Equal) (h.columns Differ) (h.columns Other) (h.columns Metric)
