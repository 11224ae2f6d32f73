-- The verdict as a function of what is checked: the first place of all, in the order of step, state and
-- rule, whose rule is not met. This project's own.
use Prim.Native.Nat.{zero, suc}
use Rattle.std.specs.Prelude.{◌≡◌, ◌↔◌, ℕ, ◌+◌, ◌||◌, not, nat_eq, nat_lt, nat_le, Bool, true, false, List, [], ◌∷◌, ◌++◌, ℤ, Option, Some, None, find}
use Rattle.tetra_bits.specs.Readings.{entry}
use Rattle.tetra_puncture.specs.Plan.{CodePlan}
use Rattle.tetra_puncture.specs.Rules.{IsAccepted}
use Rattle.tetra_puncture.specs.Spread.{spread_values}
use Rattle.tetra_puncture.specs.Trellis.{over_branch, bit_taken, state_passed}
use Rattle.tetra_puncture.specs.declared.rule.Rule.{Rule}
use Rattle.tetra_puncture.specs.declared.rule.Rule.TheVariants.{End, Edge0, Edge1, Path, Tie}
use Rattle.tetra_cert.specs.declared.verdict.Verdict.{Verdict}
use Rattle.tetra_cert.specs.declared.verdict.Verdict.TheVariants.{Accepted, Refused}

-- a step, a state and a rule
pub record Place : Type 0 where
  pub step : ℕ
  pub state : ℕ
  pub rule : Rule

-- the rules as tests
unfoldable pub is_met : CodePlan → List ℤ → List Bool → List (List ℕ) → ℕ → ℕ → Rule → Bool
is_met p wide m table t s End = not (nat_eq t p.steps) || nat_eq (entry table t s) 0
is_met p wide m table t s Edge0 = nat_le p.steps t || nat_le (entry table t s) (over_branch p wide table t s false)
is_met p wide m table t s Edge1 = nat_le p.steps (t + 4) || nat_le (entry table t s) (over_branch p wide table t s true)
is_met p wide m table t s Path =
    nat_le p.steps t || not (nat_eq s (state_passed m t))
    || nat_eq (entry table t s) (over_branch p wide table t s (bit_taken m t))
is_met p wide m table t s Tie =
    nat_le p.steps t || not (nat_eq s (state_passed m t)) || not (bit_taken m t)
    || nat_lt (entry table t s) (over_branch p wide table t s false)

-- whether the rule of a place is not met
unfoldable pub fails : CodePlan → List ℤ → List Bool → List (List ℕ) → Place → Bool
fails p wide m table place = not (is_met p wide m table place.step place.state place.rule)

-- the places of one state of a step
unfoldable pub places_at : ℕ → ℕ → List Place
places_at t s =
    record { step = t; state = s; rule = End }
    ∷ record { step = t; state = s; rule = Edge0 }
    ∷ record { step = t; state = s; rule = Edge1 }
    ∷ record { step = t; state = s; rule = Path }
    ∷ record { step = t; state = s; rule = Tie }
    ∷ []

-- those of the states below n of a step
unfoldable pub places_of_states : ℕ → ℕ → List Place
places_of_states t zero = []
places_of_states t (suc n) = places_of_states t n ++ places_at t n

-- those of the 16 states of each step below n
unfoldable pub places_of_steps : ℕ → List Place
places_of_steps zero = []
places_of_steps (suc n) = places_of_steps n ++ places_of_states n 16

-- the verdict where this place is the first that fails
unfoldable pub verdict_at : Option Place → Verdict
verdict_at None = Accepted
verdict_at (Some place) = Refused place.step place.state place.rule

-- the verdict on a message and a table over received values
unfoldable pub verdict_of : CodePlan → List ℤ → List Bool → List (List ℕ) → Verdict
verdict_of p r m table = verdict_at (find (fails p (spread_values p r) m table) (places_of_steps (p.steps + 1)))

-- it is Accepted exactly where all rules hold
abbrev pub AcceptedExactly : Type 0
AcceptedExactly = (p : CodePlan) (r : List ℤ) (m : List Bool) (table : List (List ℕ)) →
    (verdict_of p r m table ≡ Accepted) ↔ IsAccepted p (spread_values p r) m table
