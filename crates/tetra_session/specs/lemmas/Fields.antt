-- What is read of a field: its sizes, and how great its numbers are.
use Rattle.std.proofs.Common.{◌≡◌, ℕ, ◌+◌, ◌*◌, ◌<◌, ◌≤◌, inl, inr, Bool, true, false, List, [], Option, None, Some, ℤ, length, take, drop, get_or, length-drop, arith, refl, le_trans, mul-le-mul_left, ◌∙◌}
use Rattle.std.specs.Prelude.{MatchOption, IfSome}
use Rattle.std.proofs.lemmas.Bool.{cases_lt}
use Rattle.std.proofs.lemmas.List.{get_or_past, length-replicate}
use Rattle.std.proofs.lemmas.List.Elements.{All-drop}
use Rattle.tetra_bits.specs.Cost.{metric}
use Rattle.tetra_bits.specs.Plain.{best_plain}
use Rattle.tetra_bits.specs.Readings.{entry}
use Rattle.tetra_bits.specs.Soft.{IsWithin, AllWithin}
use Rattle.tetra_bits.specs.declared.reading.Mark.{Mark}
use Rattle.tetra_bits.specs.lemmas.Best.{best_is_first}
use Rattle.tetra_bits.specs.lemmas.Within.{metric_within}
use Rattle.tetra_channels.specs.Channels.{Channel, bsch, hu, half, full, data48, data24}
use Rattle.tetra_channels.specs.Fields.{coded_reading, raw_reading, access_reading}
use Rattle.tetra_parity.specs.Marks.{mark_by, mark_of}
use Rattle.tetra_parity.specs.Parity.{holds_of}
use Rattle.tetra_parity.specs.declared.kind.Parity.{Parity}
use Rattle.tetra_parity.specs.declared.kind.Parity.TheVariants.{Nothing, Four, Eight, Sixteen}
use Rattle.tetra_puncture.specs.Best.{best_of, message_metric}
use Rattle.tetra_puncture.specs.Places.{speech_whole, speech_half}
use Rattle.tetra_puncture.specs.Plan.{CodePlan, HasSizes, PlacesRise, PlacesLie}
use Rattle.tetra_puncture.specs.ToGo.{potentials_of}
use Rattle.tetra_puncture.specs.lemmas.Bounds.{message_metric_within}
use Rattle.tetra_puncture.specs.lemmas.Shapes.{length-best_of, length-potentials_of, length-row_of_potentials, potential_within}
use Rattle.tetra_puncture.specs.lemmas.SpeechHalf.{speech_half_sizes, speech_half_rise, speech_half_lie}
use Rattle.tetra_puncture.specs.lemmas.SpeechWhole.{speech_whole_sizes, speech_whole_rise, speech_whole_lie}
use Rattle.tetra_speech.specs.Frames.{whole_bits, half_bits}
use Rattle.tetra_speech.specs.Reading.{whole_reading, half_reading}
use Rattle.tetra_speech.specs.lemmas.Sizes.{whole_size, half_size}
use Rattle.tetra_rm.specs.Code.{access_word, access_metric, best_access}
use Rattle.tetra_settings.specs.Readings.{sizes, message_bits, certificate_rows, IsMarked, MayBeNotYet, rows_of, IsField}
use Rattle.tetra_settings.specs.declared.readings.FieldName.{FieldName}
use Rattle.tetra_settings.specs.declared.readings.FieldName.TheVariants.{Aach, Sync, Half, Hu, Full, D72, D48, D24, Whole, Single}
use Rattle.tetra_session.specs.Fronts.{IsBounded}
use Rattle.tetra_session.specs.Readers.{reader, read_by, not_yet, field_reading}
use Rattle.tetra_session.specs.lemmas.Plans.{HasPlanLaws, reader_laws}

-- the mark of a message that is there
marked_by : (name : FieldName) (parity : Parity) (holds : Bool) → IsMarked name (mark_by parity holds)
unfolding mark_by
marked_by name Nothing holds = tt
marked_by name Four true = tt
marked_by name Four false = tt
marked_by name Eight true = tt
marked_by name Eight false = tt
marked_by name Sixteen true = tt
marked_by name Sixteen false = tt

rows_by : (name : FieldName) (parity : Parity) (holds : Bool) → rows_of name (mark_by parity holds) ≡ certificate_rows name
unfolding mark_by
rows_by name Nothing holds = refl
rows_by name Four true = refl
rows_by name Four false = refl
rows_by name Eight true = refl
rows_by name Eight false = refl
rows_by name Sixteen true = refl
rows_by name Sixteen false = refl

-- a field of which a trellis reads a part
trellis_field : (name : FieldName) (plan : CodePlan) (parity : Parity) (coded : List ℤ) (protected : List Bool) (amount : ℕ) (bits : List Bool)
    → certificate_rows name ≡ plan.steps + 1 → length bits ≡ message_bits name
    → IsField (record { name = name; reading = record { mark = mark_of parity protected; metric = amount; bits = bits; potentials = Some (potentials_of plan coded) } })
unfolding mark_of
trellis_field name plan parity coded protected amount bits rows size =
    let holds = holds_of parity protected in
    let count : length (potentials_of plan coded) ≡ rows_of name (mark_by parity holds) = rw (rows_by name parity holds, rows) (length-potentials_of plan coded) in
    let some : 0 < rows_of name (mark_by parity holds) = rw (rows_by name parity holds, rows) (omega arith) in
    record { bits = size; mark = marked_by name parity holds; potentials = (some, count) }

-- a field that is read by the code of a channel
coded_field : (name : FieldName) (channel : Channel) (values : List ℤ) → HasPlanLaws channel (sizes name)
    → certificate_rows name ≡ channel.plan.steps + 1 → IsField (record { name = name; reading = coded_reading channel values })
unfolding coded_reading
coded_field name channel values laws rows =
    let message = best_of channel.plan values in
    let size : length message ≡ message_bits name = omega (arith, length-best_of channel.plan values, laws.bits) in
    trellis_field name channel.plan channel.parity values message (message_metric channel.plan values message) message rows size

access_field : (rows : List ℕ) (values : List ℤ) → IsField (record { name = Aach; reading = access_reading rows values })
unfolding access_reading best_access
access_field rows values =
    let first = best_is_first 14 (access_metric rows values) in
    record { bits = first.has_length; mark = tt; potentials = refl }

raw_field : (values : List ℤ) → length values ≡ 432 → IsField (record { name = D72; reading = raw_reading values })
unfolding raw_reading best_plain
raw_field values h =
    let first = best_is_first (length values) (metric values) in
    record { bits = first.has_length ∙ h; mark = tt; potentials = refl }

-- speech in a whole slot, and in half a slot
whole_field : (values : List ℤ) → IsField (record { name = Whole; reading = whole_reading values })
unfolding whole_reading
whole_field values =
    let coded = drop 102 values in
    let message = best_of speech_whole coded in
    trellis_field Whole speech_whole Eight coded (drop 112 message) (message_metric speech_whole coded message) (whole_bits (best_plain (take 102 values)) message) refl
    (whole_size (best_plain (take 102 values)) message (length-best_of speech_whole coded))

single_field : (values : List ℤ) → IsField (record { name = Single; reading = half_reading values })
unfolding half_reading
single_field values =
    let coded = drop 51 values in
    let message = best_of speech_half coded in
    trellis_field Single speech_half Four coded (drop 56 message) (message_metric speech_half coded message) (half_bits (best_plain (take 51 values)) message) refl
    (half_size (best_plain (take 51 values)) message (length-best_of speech_half coded))

-- what is read of a field is as its name says
pub field_formed : (name : FieldName) (rows : List ℕ) (values : List ℤ) → length values ≡ (sizes name).values
    → IsField (record { name = name; reading = read_by (reader name) rows values })
field_formed Aach rows values h = access_field rows values
field_formed Sync rows values h = coded_field Sync bsch values (reader_laws Sync) refl
field_formed Half rows values h = coded_field Half half values (reader_laws Half) refl
field_formed Hu rows values h = coded_field Hu hu values (reader_laws Hu) refl
field_formed Full rows values h = coded_field Full full values (reader_laws Full) refl
field_formed D72 rows values h = raw_field values h
field_formed D48 rows values h = coded_field D48 data48 values (reader_laws D48) refl
field_formed D24 rows values h = coded_field D24 data24 values (reader_laws D24) refl
field_formed Whole rows values h = whole_field values
field_formed Single rows values h = single_field values

-- an entry of the potentials, and 0 behind them
module _ (top : ℕ) (p : CodePlan) (rise : PlacesRise p) (lie : PlacesLie p) (values : List ℤ) (all : AllWithin top values) where
  entry_within : (t s : ℕ) → entry (potentials_of p values) t s ≤ top * p.sent
  unfolding entry
  entry_within t s =
      elim (cases_lt t (p.steps + 1)) [
        | inl within ↦ elim (cases_lt s 16) [
          | inl state ↦ potential_within top p values t s rise lie all (omega arith) state
          | inr past ↦ rw (get_or_past (get_or (potentials_of p values) t []) s 0 (omega (arith, length-row_of_potentials p values t (omega arith)))) (omega arith)
        ]
        | inr past ↦ rw (get_or_past (potentials_of p values) t [] (omega (arith, length-potentials_of p values))) (omega arith)
      ]

-- a field of which a trellis reads a part
trellis_bounded : (top : ℕ) (name : FieldName) (plan : CodePlan) (mark : Mark) (coded : List ℤ) (message bits : List Bool) → HasSizes plan → PlacesRise plan → PlacesLie plan
    → AllWithin top coded → length coded ≤ 432
    → IsBounded top (record { name = name; reading = record { mark = mark; metric = message_metric plan coded message; bits = bits; potentials = Some (potentials_of plan coded) } })
trellis_bounded top name plan mark coded message bits sizes_of rise lie all few = record {
  metric = le_trans (message_metric_within top plan coded message all) (mul-le-mul_left top few);
  potentials = λ t s. le_trans (entry_within top plan rise lie coded all t s) (mul-le-mul_left top sizes_of.few_sent);
}

coded_bounded : (top : ℕ) (name : FieldName) (channel : Channel) (values : List ℤ) → HasPlanLaws channel (sizes name) → AllWithin top values
    → length values ≤ 432 → IsBounded top (record { name = name; reading = coded_reading channel values })
unfolding coded_reading
coded_bounded top name channel values laws all few =
    let message = best_of channel.plan values in
    trellis_bounded top name channel.plan (mark_of channel.parity message) values message message laws.sizes laws.rise laws.lie all few

access_bounded : (top : ℕ) (rows : List ℕ) (values : List ℤ) → AllWithin top values → length values ≤ 432
    → IsBounded top (record { name = Aach; reading = access_reading rows values })
unfolding access_reading access_metric
access_bounded top rows values all few = record {
  metric = le_trans (metric_within top values (access_word rows (best_access rows values)) all) (mul-le-mul_left top few);
  potentials = tt;
}

raw_bounded : (top : ℕ) (values : List ℤ) → IsBounded top (record { name = D72; reading = raw_reading values })
unfolding raw_reading
raw_bounded top values = record { metric = omega arith; potentials = tt }

-- values behind those that are read one by one
module _ (top before : ℕ) (values : List ℤ) (all : AllWithin top values) (few : length values ≤ 432) where
  behind_within : AllWithin top (drop before values)
  behind_within = All-drop (IsWithin top) before values all

  behind_few : length (drop before values) ≤ 432
  behind_few = omega (arith, length-drop before values, few)

whole_bounded : (top : ℕ) (values : List ℤ) → AllWithin top values → length values ≤ 432 → IsBounded top (record { name = Whole; reading = whole_reading values })
unfolding whole_reading
whole_bounded top values all few =
    let message = best_of speech_whole (drop 102 values) in
    trellis_bounded top Whole speech_whole (mark_of Eight (drop 112 message)) (drop 102 values) message (whole_bits (best_plain (take 102 values)) message)
    speech_whole_sizes speech_whole_rise speech_whole_lie (behind_within top 102 values all few) (behind_few top 102 values all few)

single_bounded : (top : ℕ) (values : List ℤ) → AllWithin top values → length values ≤ 432 → IsBounded top (record { name = Single; reading = half_reading values })
unfolding half_reading
single_bounded top values all few =
    let message = best_of speech_half (drop 51 values) in
    trellis_bounded top Single speech_half (mark_of Four (drop 56 message)) (drop 51 values) message (half_bits (best_plain (take 51 values)) message)
    speech_half_sizes speech_half_rise speech_half_lie (behind_within top 51 values all few) (behind_few top 51 values all few)

few_of : (name : FieldName) (values : List ℤ) → (sizes name).values ≤ 432 → length values ≡ (sizes name).values → length values ≤ 432
few_of name values few h = omega (arith, few, h)

-- and its numbers are as great as its values allow
pub field_bounded : (top : ℕ) (name : FieldName) (rows : List ℕ) (values : List ℤ) → length values ≡ (sizes name).values
    → AllWithin top values → IsBounded top (record { name = name; reading = read_by (reader name) rows values })
field_bounded top Aach rows values h all = access_bounded top rows values all (few_of Aach values (omega arith) h)
field_bounded top Sync rows values h all = coded_bounded top Sync bsch values (reader_laws Sync) all (few_of Sync values (omega arith) h)
field_bounded top Half rows values h all = coded_bounded top Half half values (reader_laws Half) all (few_of Half values (omega arith) h)
field_bounded top Hu rows values h all = coded_bounded top Hu hu values (reader_laws Hu) all (few_of Hu values (omega arith) h)
field_bounded top Full rows values h all = coded_bounded top Full full values (reader_laws Full) all (few_of Full values (omega arith) h)
field_bounded top D72 rows values h all = raw_bounded top values
field_bounded top D48 rows values h all = coded_bounded top D48 data48 values (reader_laws D48) all (few_of D48 values (omega arith) h)
field_bounded top D24 rows values h all = coded_bounded top D24 data24 values (reader_laws D24) all (few_of D24 values (omega arith) h)
field_bounded top Whole rows values h all = whole_bounded top values all (few_of Whole values (omega arith) h)
field_bounded top Single rows values h all = single_bounded top values all (few_of Single values (omega arith) h)

-- the reading of a block that is not there yet
not_yet_formed : (name : FieldName) → MayBeNotYet name → IsField (record { name = name; reading = not_yet name })
unfolding not_yet
not_yet_formed name h = record { bits = length-replicate (message_bits name) false; mark = h; potentials = refl }

not_yet_bounded : (top : ℕ) (name : FieldName) → IsBounded top (record { name = name; reading = not_yet name })
unfolding not_yet
not_yet_bounded top name = record { metric = omega arith; potentials = tt }

-- a field with its values, or that is not there yet
pub reading_formed_of : (name : FieldName) (rows : List ℕ) (soft : Option (List ℤ))
    → MatchOption soft (MayBeNotYet name) (λ values. length values ≡ (sizes name).values)
    → IsField (record { name = name; reading = field_reading rows name soft })
reading_formed_of name rows None h = not_yet_formed name h
reading_formed_of name rows (Some values) h = field_formed name rows values h

pub reading_bounded_of : (top : ℕ) (name : FieldName) (rows : List ℕ) (soft : Option (List ℤ))
    → MatchOption soft (MayBeNotYet name) (λ values. length values ≡ (sizes name).values) → IfSome soft (AllWithin top)
    → IsBounded top (record { name = name; reading = field_reading rows name soft })
reading_bounded_of top name rows None h within = not_yet_bounded top name
reading_bounded_of top name rows (Some values) h within = field_bounded top name rows values h within
