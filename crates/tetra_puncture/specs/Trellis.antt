-- The trellis of a plan: 16 states before each step, and the costs to go. Steps are counted from 0. The
-- values are those at all places of the mother word, 0 where nothing is sent, so that places which are
-- not sent cost nothing.
use Rattle.std.specs.Prelude.{◌≡◌, ℕ, ◌+◌, ◌*◌, ◌<◌, ◌≤◌, Bool, true, false, List, [], ◌∷◌, length, ℤ}
use Rattle.tetra_bits.specs.Cost.{cost}
use Rattle.tetra_bits.specs.Order.{bit_at}
use Rattle.tetra_bits.specs.Readings.{entry}
use Rattle.tetra_bits.specs.Soft.{value_at}
use Rattle.tetra_bits.specs.Sums.{sum_below}
use Rattle.tetra_mother.specs.Mother.{edge, next_state, state_before}
use Rattle.tetra_puncture.specs.Plan.{CodePlan, tailed}

-- the cost of output i, counted from 0, at step t from state s with bit b
unfoldable pub output_cost : CodePlan → List ℤ → ℕ → ℕ → Bool → ℕ → ℕ
output_cost p wide t s b i = cost (value_at wide (p.outs * t + i)) (edge p.taps s b (i + 1))

-- the cost of step t from state s with bit b
unfoldable pub step_cost : CodePlan → List ℤ → ℕ → ℕ → Bool → ℕ
step_cost p wide t s b = sum_below p.outs (output_cost p wide t s b)

-- the sum of the step costs of bits taken from state s before step t
unfoldable pub cost_from : CodePlan → List ℤ → ℕ → ℕ → List Bool → ℕ
cost_from p wide t s [] = 0
cost_from p wide t s (b ∷ bits) = step_cost p wide t s b + cost_from p wide (t + 1) (next_state s b) bits

-- bit 1 is allowed but at the last four steps
unfoldable pub IsAllowed : CodePlan → ℕ → Bool → Type 0
IsAllowed p t b = b ≡ true → t + 4 < p.steps

-- bits for the steps from t to the end, those of the last four steps being 0
pub record IsContinuation (p : CodePlan) (t : ℕ) (bits : List Bool) : Type 0 where
  pub to_the_end : t + length bits ≡ p.steps
  pub zeros : (k : ℕ) → p.steps ≤ t + k + 4 → bit_at bits k ≡ false

-- the cost to go from state s before step t: some continuation has it, and none has a smaller one
pub record IsCostToGo (p : CodePlan) (wide : List ℤ) (t s n : ℕ) : Type 0 where
  pub reached : (bits : List Bool) × IsContinuation p t bits × (cost_from p wide t s bits ≡ n)
  pub least : (bits : List Bool) → IsContinuation p t bits → n ≤ cost_from p wide t s bits

-- every entry of a table is the cost to go from its state
unfoldable pub AllCostsToGo : CodePlan → List ℤ → List (List ℕ) → Type 0
AllCostsToGo p wide table = (t s : ℕ) → t ≤ p.steps → s < 16 → IsCostToGo p wide t s (entry table t s)

-- the bit that a message takes at step t, a tail bit at the last four
unfoldable pub bit_taken : List Bool → ℕ → Bool
bit_taken m t = bit_at (tailed m) t

-- the state that a message passes before step t
unfoldable pub state_passed : List Bool → ℕ → ℕ
state_passed m t = state_before (tailed m) (t + 1)

-- a step from state s with bit b, and what a table says of the rest
unfoldable pub over_branch : CodePlan → List ℤ → List (List ℕ) → ℕ → ℕ → Bool → ℕ
over_branch p wide table t s b = step_cost p wide t s b + entry table (t + 1) (next_state s b)
