-- What is added to the numbers of a tally, and how great they are then.
use Prim.Native.Nat.{suc}
use Rattle.std.proofs.Common.{ℕ, ◌+◌, ◌^◌, ◌<◌, ◌≤◌, ◌≡◌, Bool, true, false, List, [], ◌∷◌, length, Option, arith, refl, sym, ap, ◌∙◌, map, get_or, drop, add-one, drop-cons}
use Rattle.std.specs.Prelude.{sum_by, zip}
use Rattle.std.proofs.lemmas.List.{get_or-map, length-map}
use Rattle.std.proofs.lemmas.List.Sums.{sum_by-cons}
use Rattle.tetra_bits.specs.declared.reading.Mark.{Mark}
use Rattle.tetra_bits.specs.declared.reading.Mark.TheVariants.{Good as GoodMark, Bad as BadMark, Unchecked as UncheckedMark, NotYet as NotYetMark}
use Rattle.tetra_settings.specs.declared.readings.Field.{Field}
use Rattle.tetra_trial.specs.declared.tally.Comparison.{Comparison}
use Rattle.tetra_trial.specs.declared.tally.Comparison.TheVariants.{Equal as IsEqual, Differ as IsDifferent, Other as IsOther}
use Rattle.tetra_trial.specs.declared.tally.Tally.{Tally}
use Rattle.tetra_trial.specs.Columns.{Column, Good, Bad, Unchecked, NotYet, Equal, Differ, Other, Metric, adds, same_mark, same_comparison}
use Rattle.tetra_trial.specs.Fields.{comparison}
use Rattle.tetra_trial.specs.Tallies.{with_letter, with_mark, with_comparison, with_metric, with_field, with_fields, AtMost}

-- the number of a column
abbrev pub number : Column → Tally → ℕ
number Good t = t.good
number Bad t = t.bad
number Unchecked t = t.unchecked
number NotYet t = t.notyet
number Equal t = t.equal
number Differ t = t.differ
number Other t = t.other
number Metric t = t.metric

-- what a mark adds to it, what a comparison, and what a metric
abbrev mark_adds : Column → Mark → ℕ
mark_adds Good mark = same_mark GoodMark mark
mark_adds Bad mark = same_mark BadMark mark
mark_adds Unchecked mark = same_mark UncheckedMark mark
mark_adds NotYet mark = same_mark NotYetMark mark
mark_adds Equal mark = 0
mark_adds Differ mark = 0
mark_adds Other mark = 0
mark_adds Metric mark = 0

abbrev comparison_adds : Column → Comparison → ℕ
comparison_adds Equal compared = same_comparison IsEqual compared
comparison_adds Differ compared = same_comparison IsDifferent compared
comparison_adds Other compared = same_comparison IsOther compared
comparison_adds Good compared = 0
comparison_adds Bad compared = 0
comparison_adds Unchecked compared = 0
comparison_adds NotYet compared = 0
comparison_adds Metric compared = 0

abbrev metric_adds : Column → ℕ → ℕ
metric_adds Metric metric = metric
metric_adds Good metric = 0
metric_adds Bad metric = 0
metric_adds Unchecked metric = 0
metric_adds NotYet metric = 0
metric_adds Equal metric = 0
metric_adds Differ metric = 0
metric_adds Other metric = 0

number_mark : (mark : Mark) (column : Column) (t : Tally) → number column (with_mark mark t) ≡ number column t + mark_adds column mark
number_mark GoodMark Good t = refl
number_mark GoodMark column t = omega arith
number_mark BadMark Bad t = refl
number_mark BadMark column t = omega arith
number_mark UncheckedMark Unchecked t = refl
number_mark UncheckedMark column t = omega arith
number_mark NotYetMark NotYet t = refl
number_mark NotYetMark column t = omega arith

number_comparison : (compared : Comparison) (column : Column) (t : Tally)
    → number column (with_comparison compared t) ≡ number column t + comparison_adds column compared
number_comparison IsEqual Equal t = refl
number_comparison IsEqual column t = omega arith
number_comparison IsDifferent Differ t = refl
number_comparison IsDifferent column t = omega arith
number_comparison IsOther Other t = refl
number_comparison IsOther column t = omega arith

number_metric : (column : Column) (metric : ℕ) (t : Tally) → number column (with_metric metric t) ≡ number column t + metric_adds column metric
number_metric Metric metric t = refl
number_metric column metric t = omega arith

parts_add : (column : Column) (field : Field) (sent : Option (List Bool))
    → mark_adds column field.reading.mark + comparison_adds column (comparison field.reading.bits sent) + metric_adds column field.reading.metric
    ≡ adds column field sent
parts_add Good field sent = omega arith
parts_add Bad field sent = omega arith
parts_add Unchecked field sent = omega arith
parts_add NotYet field sent = omega arith
parts_add Equal field sent = omega arith
parts_add Differ field sent = omega arith
parts_add Other field sent = omega arith
parts_add Metric field sent = omega arith

-- a field adds what it is to add
pub number_field : (column : Column) (field : Field) (sent : Option (List Bool)) (t : Tally)
    → number column (with_field field sent t) ≡ number column t + adds column field sent
unfolding with_field
number_field column field sent t =
    let mark = field.reading.mark in
    let compared = comparison field.reading.bits sent in
    let marked = with_mark mark t in
    let a = number_mark mark column t in
    let b = number_comparison compared column marked in
    let d = number_metric column field.reading.metric (with_comparison compared marked) in
    let e = parts_add column field sent in
    omega (arith, a, b, d, e)

-- and so do the fields of a slot
pub number_fields : (column : Column) (fields : List Field) (sent : List (Option (List Bool))) (t : Tally)
    → number column (with_fields fields sent t) ≡ number column t + sum_by (λ pair. adds column pair.0 pair.1) (zip fields sent)
number_fields column [] sent t = omega arith
number_fields column (field ∷ fields) [] t = omega arith
number_fields column (field ∷ fields) (s ∷ sent) t =
    let rest = number_fields column fields sent (with_field field s t) in
    let here = number_field column field s t in
    let both = sum_by-cons (λ (pair : Field × Option (List Bool)). adds column pair.0 pair.1) (field, s) (zip fields sent) in
    omega (arith, rest, here, both)

-- a letter adds at most 1, and so do a mark and a comparison
pub most_letter : (same : Bool) (top : ℕ) (t : Tally) → AtMost top t → AtMost (top + 1) (with_letter same t)
most_letter true top t h = record { kinds = omega arith; good = omega arith; bad = omega arith; unchecked = omega arith; notyet = omega arith; equal = omega arith; differ = omega arith; other = omega arith; metric = omega arith }
most_letter false top t h = record { kinds = omega arith; good = omega arith; bad = omega arith; unchecked = omega arith; notyet = omega arith; equal = omega arith; differ = omega arith; other = omega arith; metric = omega arith }

pub most_mark : (mark : Mark) (top : ℕ) (t : Tally) → AtMost top t → AtMost (top + 1) (with_mark mark t)
most_mark GoodMark top t h = record { kinds = omega arith; good = omega arith; bad = omega arith; unchecked = omega arith; notyet = omega arith; equal = omega arith; differ = omega arith; other = omega arith; metric = omega arith }
most_mark BadMark top t h = record { kinds = omega arith; good = omega arith; bad = omega arith; unchecked = omega arith; notyet = omega arith; equal = omega arith; differ = omega arith; other = omega arith; metric = omega arith }
most_mark UncheckedMark top t h = record { kinds = omega arith; good = omega arith; bad = omega arith; unchecked = omega arith; notyet = omega arith; equal = omega arith; differ = omega arith; other = omega arith; metric = omega arith }
most_mark NotYetMark top t h = record { kinds = omega arith; good = omega arith; bad = omega arith; unchecked = omega arith; notyet = omega arith; equal = omega arith; differ = omega arith; other = omega arith; metric = omega arith }

pub most_comparison : (compared : Comparison) (top : ℕ) (t : Tally) → AtMost top t → AtMost (top + 1) (with_comparison compared t)
most_comparison IsEqual top t h = record { kinds = omega arith; good = omega arith; bad = omega arith; unchecked = omega arith; notyet = omega arith; equal = omega arith; differ = omega arith; other = omega arith; metric = omega arith }
most_comparison IsDifferent top t h = record { kinds = omega arith; good = omega arith; bad = omega arith; unchecked = omega arith; notyet = omega arith; equal = omega arith; differ = omega arith; other = omega arith; metric = omega arith }
most_comparison IsOther top t h = record { kinds = omega arith; good = omega arith; bad = omega arith; unchecked = omega arith; notyet = omega arith; equal = omega arith; differ = omega arith; other = omega arith; metric = omega arith }

pub most_more : (top more : ℕ) (t : Tally) → top ≤ more → AtMost top t → AtMost more t
most_more top more t small h = record { kinds = omega arith; good = omega arith; bad = omega arith; unchecked = omega arith; notyet = omega arith; equal = omega arith; differ = omega arith; other = omega arith; metric = omega arith }

most_metric : (metric top more : ℕ) (t : Tally) → metric ≤ more → AtMost top t → AtMost (top + more) (with_metric metric t)
most_metric metric top more t small h = record { kinds = omega arith; good = omega arith; bad = omega arith; unchecked = omega arith; notyet = omega arith; equal = omega arith; differ = omega arith; other = omega arith; metric = omega arith }

-- and a field at most a number of 32 bits
pub most_field : (field : Field) (sent : Option (List Bool)) (top : ℕ) (t : Tally) → field.reading.metric < 2 ^ 32 → AtMost top t → AtMost (top + 2 ^ 33) (with_field field sent t)
unfolding with_field
most_field field sent top t small h =
    let marked = with_mark field.reading.mark t in
    let compared = comparison field.reading.bits sent in
    let a = most_mark field.reading.mark top t h in
    let b = most_comparison compared (top + 1) marked a in
    let d = most_metric field.reading.metric (top + 1 + 1) (2 ^ 32) (with_comparison compared marked) (omega arith) b in
    most_more (top + 1 + 1 + 2 ^ 32) (top + 2 ^ 33) (with_metric field.reading.metric (with_comparison compared marked)) (omega arith) d

-- one field on; what was sent is seen through a view
pub field_on : {X : Type 0} (view : X → Option (List Bool)) (fields : List Field) (sent : List X) (i : ℕ) (t : Tally) (f : Field) (s : X)
    → i < length fields → i < length sent → f ≡ get_or fields i f → s ≡ get_or sent i s
    → with_fields (drop i fields) (drop i (map view sent)) t ≡ with_fields (drop (i + 1) fields) (drop (i + 1) (map view sent)) (with_field f (view s) t)
field_on view fields sent i t f s hf hs ef es =
    let seen : view s ≡ get_or (map view sent) i (view s) = ap view es ∙ sym (get_or-map view sent i s (view s) hs) in
    let within : i < length (map view sent) = omega (arith, length-map sent view) in
    rw (add-one, drop-cons fields i f, drop-cons (map view sent) i (view s))
    (ap (λ g. with_fields (drop (suc i) fields) (drop (suc i) (map view sent)) (with_field g (get_or (map view sent) i (view s)) t)) (sym ef)
    ∙ ap (λ p. with_fields (drop (suc i) fields) (drop (suc i) (map view sent)) (with_field f p t)) (sym seen))
