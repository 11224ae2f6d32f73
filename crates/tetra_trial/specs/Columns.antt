-- What a field adds to each number of a tally. This project's own.
use Rattle.std.specs.Prelude.{ℕ, Bool, List}
use Rattle.std.specs.declared.option.Option.{Option}
use Rattle.tetra_bits.specs.declared.reading.Mark.{Mark}
use Rattle.tetra_bits.specs.declared.reading.Mark.TheVariants.{Good as GoodMark, Bad as BadMark, Unchecked as UncheckedMark, NotYet as NotYetMark}
use Rattle.tetra_settings.specs.declared.readings.Field.{Field}
use Rattle.tetra_trial.specs.Fields.{comparison}
use Rattle.tetra_trial.specs.declared.tally.Comparison.{Comparison}
use Rattle.tetra_trial.specs.declared.tally.Comparison.TheVariants.{Equal as IsEqual, Differ as IsDifferent, Other as IsOther}

-- the numbers to which fields add
pub data Column : Type 0 where
  Good : Column
  Bad : Column
  Unchecked : Column
  NotYet : Column
  Equal : Column
  Differ : Column
  Other : Column
  Metric : Column

-- 1 where the two are the same
abbrev pub same_mark : Mark → Mark → ℕ
same_mark GoodMark GoodMark = 1
same_mark BadMark BadMark = 1
same_mark UncheckedMark UncheckedMark = 1
same_mark NotYetMark NotYetMark = 1
same_mark a b = 0

abbrev pub same_comparison : Comparison → Comparison → ℕ
same_comparison IsEqual IsEqual = 1
same_comparison IsDifferent IsDifferent = 1
same_comparison IsOther IsOther = 1
same_comparison a b = 0

-- what a field adds to a number, where this was sent in its place
abbrev pub adds : Column → Field → Option (List Bool) → ℕ
adds Good field sent = same_mark GoodMark field.reading.mark
adds Bad field sent = same_mark BadMark field.reading.mark
adds Unchecked field sent = same_mark UncheckedMark field.reading.mark
adds NotYet field sent = same_mark NotYetMark field.reading.mark
adds Equal field sent = same_comparison IsEqual (comparison field.reading.bits sent)
adds Differ field sent = same_comparison IsDifferent (comparison field.reading.bits sent)
adds Other field sent = same_comparison IsOther (comparison field.reading.bits sent)
adds Metric field sent = field.reading.metric
