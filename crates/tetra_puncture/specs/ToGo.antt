-- The cost to go as plain data, and the table of all of them: the potentials of a received block.
use Rattle.std.specs.Prelude.{ℕ, ◌+◌, ◌-◌, ◌≤◌, min, Bool, false, List, ◌++◌, replicate, ℤ}
use Rattle.tetra_bits.specs.Least.{best}
use Rattle.tetra_bits.specs.Numbered.{numbered}
use Rattle.tetra_puncture.specs.Plan.{CodePlan}
use Rattle.tetra_puncture.specs.Spread.{spread_values}
use Rattle.tetra_puncture.specs.Trellis.{cost_from, IsCostToGo}

-- free bits for the steps from t on, and zeros for those of the last four steps that are left
unfoldable pub ended : CodePlan → ℕ → List Bool → List Bool
ended p t bits = bits ++ replicate (min 4 (p.steps - t)) false

-- the sum of the step costs of free bits and these zeros from state s before step t
unfoldable pub rate_to_go : CodePlan → List ℤ → ℕ → ℕ → List Bool → ℕ
rate_to_go p wide t s bits = cost_from p wide t s (ended p t bits)

-- the cost to go: the least such sum, by a comparison of all lists of free bits
unfoldable pub cost_to_go : CodePlan → List ℤ → ℕ → ℕ → ℕ
cost_to_go p wide t s = rate_to_go p wide t s (best (p.steps - t - 4) (rate_to_go p wide t s))

-- the potential of state j in row i, both counted from 1
unfoldable pub potential : CodePlan → List ℤ → ℕ → ℕ → ℕ
potential p wide i j = cost_to_go p wide (i - 1) (j - 1)

unfoldable pub potential_row : CodePlan → List ℤ → ℕ → List ℕ
potential_row p wide i = numbered (potential p wide i) 16

-- the potentials of received values: a row of 16 before each step and one behind the last
unfoldable pub potentials_of : CodePlan → List ℤ → List (List ℕ)
potentials_of p r = numbered (potential_row p (spread_values p r)) (p.steps + 1)

-- the function has the cost to go
abbrev pub CostToGoIsFound : Type 0
CostToGoIsFound = (p : CodePlan) (wide : List ℤ) (t s : ℕ) → t ≤ p.steps → IsCostToGo p wide t s (cost_to_go p wide t s)
