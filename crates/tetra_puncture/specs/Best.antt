-- The first-least message of a plan over received soft values. There is no trellis in it.
use Rattle.std.specs.Prelude.{ℕ, ℤ, ◌-◌, Bool, List}
use Rattle.tetra_bits.specs.Cost.{metric}
use Rattle.tetra_bits.specs.Least.{FirstLeast, best}
use Rattle.tetra_puncture.specs.Plan.{CodePlan, word}

-- the metric of a message: that of its sent word
unfoldable pub message_metric : CodePlan → List ℤ → List Bool → ℕ
message_metric p r m = metric r (word p m)

-- the message ranks before all others of the plan
abbrev pub IsFirstLeast : CodePlan → List ℤ → List Bool → Type 0
IsFirstLeast p r m = FirstLeast (p.steps - 4) (message_metric p r) m

-- the first-least message of the plan
unfoldable pub best_of : CodePlan → List ℤ → List Bool
best_of p r = best (p.steps - 4) (message_metric p r)
