-- The rules that a table of numbers has to meet beside a message. This project's own.
use Rattle.std.specs.Prelude.{◌≡◌, ℕ, ◌+◌, ◌<◌, ◌≤◌, ◌⊎◌, Bool, true, false, List, ℤ}
use Rattle.tetra_bits.specs.Readings.{entry}
use Rattle.tetra_puncture.specs.Plan.{CodePlan}
use Rattle.tetra_puncture.specs.Trellis.{over_branch, bit_taken, state_passed}
use Rattle.tetra_puncture.specs.declared.rule.Rule.{Rule}
use Rattle.tetra_puncture.specs.declared.rule.Rule.TheVariants.{End, Edge0, Edge1, Path, Tie}

-- what each rule asks at step t and state s
unfoldable pub Holds : CodePlan → List ℤ → List Bool → List (List ℕ) → ℕ → ℕ → Rule → Type 0
Holds p wide m table t s End = t ≡ p.steps → entry table t s ≡ 0
Holds p wide m table t s Edge0 = t < p.steps → entry table t s ≤ over_branch p wide table t s false
Holds p wide m table t s Edge1 = t + 4 < p.steps → entry table t s ≤ over_branch p wide table t s true
Holds p wide m table t s Path =
    t < p.steps → s ≡ state_passed m t → entry table t s ≡ over_branch p wide table t s (bit_taken m t)
Holds p wide m table t s Tie =
    t < p.steps → s ≡ state_passed m t → bit_taken m t ≡ true
    → entry table t s < over_branch p wide table t s false

-- all rules hold at all steps and states
unfoldable pub IsAccepted : CodePlan → List ℤ → List Bool → List (List ℕ) → Type 0
IsAccepted p wide m table = (t s : ℕ) (rule : Rule) → t ≤ p.steps → s < 16 → Holds p wide m table t s rule

-- the order of the rules at one step and state
unfoldable pub rank : Rule → ℕ
rank End = 0
rank Edge0 = 1
rank Edge1 = 2
rank Path = 3
rank Tie = 4

-- one place stands before another in the order of step, state and rule
unfoldable pub IsEarlier : ℕ → ℕ → Rule → ℕ → ℕ → Rule → Type 0
IsEarlier t s rule t' s' rule' =
    (t < t') ⊎ ((t ≡ t') × (s < s')) ⊎ ((t ≡ t') × (s ≡ s') × (rank rule < rank rule'))

-- the first place where a rule does not hold
pub record IsFirstFailing (p : CodePlan) (wide : List ℤ) (m : List Bool) (table : List (List ℕ))
    (t s : ℕ) (rule : Rule) : Type 0 where
  pub in_table : (t ≤ p.steps) × (s < 16)
  pub fails : ¬ Holds p wide m table t s rule
  pub earlier : (t' s' : ℕ) (rule' : Rule) → t' ≤ p.steps → s' < 16 → IsEarlier t' s' rule' t s rule
      → Holds p wide m table t' s' rule'
