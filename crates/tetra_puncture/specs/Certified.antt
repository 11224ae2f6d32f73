-- What an accepted table shows. This project's own.
use Rattle.std.specs.Prelude.{◌≡◌, ℕ, ◌<◌, ◌≤◌, Bool, List, length, ℤ}
use Rattle.tetra_bits.specs.Readings.{entry}
use Rattle.tetra_puncture.specs.Best.{IsFirstLeast, best_of, message_metric}
use Rattle.tetra_puncture.specs.Plan.{CodePlan, IsMessage, HasSizes, PlacesRise, PlacesLie}
use Rattle.tetra_puncture.specs.Rules.{IsAccepted}
use Rattle.tetra_puncture.specs.Spread.{spread_values}
use Rattle.tetra_puncture.specs.ToGo.{potentials_of}
use Rattle.tetra_puncture.specs.Trellis.{IsCostToGo, state_passed}

-- the message is first-least, and the table tells its metric, is nowhere greater than the cost to go,
-- and has the costs to go at the states that the message passes
pub record IsCertified (p : CodePlan) (r : List ℤ) (m : List Bool) (table : List (List ℕ)) : Type 0 where
  pub first_least : IsFirstLeast p r m
  pub is_best : m ≡ best_of p r
  pub metric_is : entry table 0 0 ≡ message_metric p r m
  pub below : (t s n : ℕ) → t ≤ p.steps → s < 16 → IsCostToGo p (spread_values p r) t s n → entry table t s ≤ n
  pub on_path : (t : ℕ) → t ≤ p.steps
      → IsCostToGo p (spread_values p r) t (state_passed m t) (entry table t (state_passed m t))

-- a plan's data with its laws, and a message and received values of its lengths
pub record Fits (p : CodePlan) (r : List ℤ) (m : List Bool) : Type 0 where
  pub sizes : HasSizes p
  pub rise : PlacesRise p
  pub lie : PlacesLie p
  pub message : IsMessage p m
  pub values : length r ≡ p.sent

-- where all rules hold, the message is certified, whoever made the table
abbrev pub AcceptedIsCertified : Type 0
AcceptedIsCertified =
    (p : CodePlan) (r : List ℤ) (m : List Bool) (table : List (List ℕ))
    → Fits p r m → IsAccepted p (spread_values p r) m table → IsCertified p r m table

-- there is one cost to go
abbrev pub CostToGoIsOne : Type 0
CostToGoIsOne = (p : CodePlan) (wide : List ℤ) (t s n n' : ℕ)
    → IsCostToGo p wide t s n → IsCostToGo p wide t s n' → n ≡ n'

-- beside the first-least message the costs to go meet all rules
abbrev pub CostsToGoAreAccepted : Type 0
CostsToGoAreAccepted =
    (p : CodePlan) (r : List ℤ) → HasSizes p → PlacesRise p → PlacesLie p → length r ≡ p.sent
    → IsAccepted p (spread_values p r) (best_of p r) (potentials_of p r)
