-- Tallies with one thing more counted, and how great their numbers are. This project's own.
use Rattle.std.specs.Prelude.{ℕ, ◌+◌, ◌≤◌, cond, Bool, List, [], ◌∷◌}
use Rattle.std.specs.declared.option.Option.{Option}
use Rattle.tetra_bits.specs.declared.reading.Mark.{Mark}
use Rattle.tetra_bits.specs.declared.reading.Mark.TheVariants.{Good, Bad, Unchecked, NotYet}
use Rattle.tetra_settings.specs.declared.readings.Field.{Field}
use Rattle.tetra_trial.specs.declared.tally.Comparison.{Comparison}
use Rattle.tetra_trial.specs.declared.tally.Comparison.TheVariants.{Equal, Differ, Other}
use Rattle.tetra_trial.specs.declared.tally.Tally.{Tally}
use Rattle.tetra_trial.specs.Fields.{comparison}

-- no slot of so many is counted yet
abbrev pub no_slot : ℕ → Tally
no_slot slots = record {
  slots = slots;
  kinds = 0;
  good = 0;
  bad = 0;
  unchecked = 0;
  notyet = 0;
  equal = 0;
  differ = 0;
  other = 0;
  metric = 0;
}

abbrev pub with_letter : Bool → Tally → Tally
with_letter same t = record t { kinds = t.kinds + cond same 1 0 }

abbrev pub with_mark : Mark → Tally → Tally
with_mark Good t = record t { good = t.good + 1 }
with_mark Bad t = record t { bad = t.bad + 1 }
with_mark Unchecked t = record t { unchecked = t.unchecked + 1 }
with_mark NotYet t = record t { notyet = t.notyet + 1 }

abbrev pub with_comparison : Comparison → Tally → Tally
with_comparison Equal t = record t { equal = t.equal + 1 }
with_comparison Differ t = record t { differ = t.differ + 1 }
with_comparison Other t = record t { other = t.other + 1 }

abbrev pub with_metric : ℕ → Tally → Tally
with_metric metric t = record t { metric = t.metric + metric }

-- a field, with what was sent in its place
unfoldable pub with_field : Field → Option (List Bool) → Tally → Tally
with_field field sent t =
    with_metric field.reading.metric (with_comparison (comparison field.reading.bits sent) (with_mark field.reading.mark t))

-- fields, with what was sent in their places
abbrev pub with_fields : List Field → List (Option (List Bool)) → Tally → Tally
with_fields [] sent t = t
with_fields (field ∷ fields) [] t = t
with_fields (field ∷ fields) (s ∷ sent) t = with_fields fields sent (with_field field s t)

-- no number but that of the slots is greater
pub record AtMost (top : ℕ) (t : Tally) : Type 0 where
  pub kinds : t.kinds ≤ top
  pub good : t.good ≤ top
  pub bad : t.bad ≤ top
  pub unchecked : t.unchecked ≤ top
  pub notyet : t.notyet ≤ top
  pub equal : t.equal ≤ top
  pub differ : t.differ ≤ top
  pub other : t.other ≤ top
  pub metric : t.metric ≤ top
