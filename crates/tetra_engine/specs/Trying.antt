-- What `trial` writes: the summary of slots that were made, sent, damaged and received.
use Rattle.std.specs.Prelude.{ℕ, ◌*◌, List, ◌++◌, codes, decimal}
use Rattle.tetra_settings.specs.declared.types.Settings.{Settings}
use Rattle.tetra_trial.specs.declared.tally.Tally.{Tally}
use Rattle.tetra_trial.specs.Trials.{tally_of}
use Rattle.tetra_engine.specs.Series.{Series}

-- a word with its number
abbrev pub number_line : List ℕ → ℕ → List ℕ
number_line word number = word ++ codes " " ++ decimal number ++ codes "\n"

-- the ten lines of a tally
abbrev pub summary : Tally → List ℕ
summary tally = number_line (codes "slots") tally.slots
    ++ number_line (codes "kinds") tally.kinds
    ++ number_line (codes "good") tally.good
    ++ number_line (codes "bad") tally.bad
    ++ number_line (codes "unchecked") tally.unchecked
    ++ number_line (codes "notyet") tally.notyet
    ++ number_line (codes "equal") tally.equal
    ++ number_line (codes "differ") tally.differ
    ++ number_line (codes "other") tally.other
    ++ number_line (codes "metric") tally.metric

-- one summary, which stands for all slots
abbrev pub trying : Settings → Series
trying settings = record {
  count = 1;
  out = λ _. summary (tally_of settings);
  slots = λ k. k * settings.slots;
}
