-- What the verdict on a message and a table says. This project's own.
use Rattle.std.specs.Prelude.{ℕ, ◌<◌, Bool, List, ℤ, Option, Some, None}
use Rattle.tetra_puncture.specs.Certified.{IsCertified}
use Rattle.tetra_puncture.specs.Plan.{CodePlan}
use Rattle.tetra_puncture.specs.Rules.{Holds, IsAccepted, IsFirstFailing, rank}
use Rattle.tetra_puncture.specs.Spread.{spread_values}
use Rattle.tetra_puncture.specs.declared.rule.Rule.{Rule}
use Rattle.tetra_cert.specs.declared.rules.Failing.{Failing}
use Rattle.tetra_cert.specs.declared.verdict.Verdict.{Verdict}
use Rattle.tetra_cert.specs.declared.verdict.Verdict.TheVariants.{Accepted, Refused}

-- all rules hold, or the verdict names the first that does not
unfoldable pub IsRight : CodePlan → List ℤ → List Bool → List (List ℕ) → Verdict → Type 0
IsRight p r m table Accepted = IsAccepted p (spread_values p r) m table
IsRight p r m table (Refused t s rule) = IsFirstFailing p (spread_values p r) m table t s rule

-- an accepted message is certified
unfoldable pub IsSound : CodePlan → List ℤ → List Bool → List (List ℕ) → Verdict → Type 0
IsSound p r m table Accepted = IsCertified p r m table
IsSound p r m table (Refused t s rule) = Unit {0}

-- none where all rules hold at step t and state s, else the first that does not
unfoldable pub IsFirstOfRules : CodePlan → List ℤ → List Bool → List (List ℕ) → ℕ → ℕ → Option Rule → Type 0
IsFirstOfRules p wide m table t s None = (rule : Rule) → Holds p wide m table t s rule
IsFirstOfRules p wide m table t s (Some rule) =
    (¬ Holds p wide m table t s rule)
    × ((earlier : Rule) → rank earlier < rank rule → Holds p wide m table t s earlier)

-- none where all rules hold at step t, else the first state where one does not, with the first that does not
unfoldable pub IsFirstOfStates : CodePlan → List ℤ → List Bool → List (List ℕ) → ℕ → Option Failing → Type 0
IsFirstOfStates p wide m table t None = (s : ℕ) (rule : Rule) → s < 16 → Holds p wide m table t s rule
IsFirstOfStates p wide m table t (Some failing) =
    (failing.state < 16)
    × ((s : ℕ) (rule : Rule) → s < failing.state → Holds p wide m table t s rule)
    × IsFirstOfRules p wide m table t failing.state (Some failing.rule)
