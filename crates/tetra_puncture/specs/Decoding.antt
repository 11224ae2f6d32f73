-- How costs to go and the first-least message are found: rows from the end backwards, and bits from the first step on.
use Rattle.std.specs.Prelude.{◌≡◌, ℕ, ◌+◌, ◌-◌, ◌*◌, ◌<◌, ◌≤◌, Bool, true, false, not, cond, ◌==◌, min, nat_lt, List, length, ℤ}
use Rattle.tetra_bits.specs.Order.{bit_at}
use Rattle.tetra_bits.specs.Readings.{entry}
use Rattle.tetra_puncture.specs.Plan.{CodePlan}
use Rattle.tetra_puncture.specs.Trellis.{over_branch, state_passed}

-- the lesser of the allowed ways from state s before step t: both bits, but bit 0 alone at the last four steps
unfoldable pub least_branch : CodePlan → List ℤ → List (List ℕ) → ℕ → ℕ → ℕ
least_branch p wide table t s =
    cond (nat_lt (t + 4) p.steps)
    (min (over_branch p wide table t s false) (over_branch p wide table t s true))
    (over_branch p wide table t s false)

-- each row comes from the next, the row behind the last step being 0
pub record IsBackward (p : CodePlan) (wide : List ℤ) (table : List (List ℕ)) : Type 0 where
  pub end : (s : ℕ) → s < 16 → entry table p.steps s ≡ 0
  pub before : (t s : ℕ) → t < p.steps → s < 16 → entry table t s ≡ least_branch p wide table t s

-- the rows from t on are made, one from the next
pub record BackFrom (p : CodePlan) (wide : List ℤ) (rows : List (List ℕ)) (t : ℕ) : Type 0 where
  pub long : length rows ≡ p.steps + 1
  pub end : (s : ℕ) → s < 16 → entry rows p.steps s ≡ 0
  pub before : (u s : ℕ) → t ≤ u → u < p.steps → s < 16 → entry rows u s ≡ least_branch p wide rows u s
  pub small : (u s : ℕ) → t ≤ u → u ≤ p.steps → s < 16 → entry rows u s ≤ 131072 * (p.steps - u)

-- each bit of the message is 0 exactly where bit 0 reaches the entry
unfoldable pub IsTraced : CodePlan → List ℤ → List (List ℕ) → List Bool → Type 0
IsTraced p wide table m =
    (t : ℕ) → t < length m
    → bit_at m t ≡ not (entry table t (state_passed m t) == over_branch p wide table t (state_passed m t) false)
