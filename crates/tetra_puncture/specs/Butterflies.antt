-- The branches of a step as butterflies: from the states 2 i and 2 i + 1 the branches with a bit lead to one state. This
-- project's own.
use Rattle.std.specs.Prelude.{◌≡◌, ℕ, ◌+◌, ◌*◌, ◌/◌, ◌%◌, ◌^◌, ◌<◌, ◌≤◌, Bool, true, false, not, cond, nat_eq, nat_lt, List, length, min, slice_index, slice_index_or, [], ℤ}
use Rattle.tetra_bits.specs.Cost.{cost}
use Rattle.tetra_bits.specs.Order.{bit_at}
use Rattle.tetra_bits.specs.Readings.{entry}
use Rattle.tetra_bits.specs.Soft.{value_at}
use Rattle.tetra_mother.specs.Mother.{next_state}
use Rattle.tetra_puncture.specs.Labels.{branch_output}
use Rattle.tetra_puncture.specs.Plan.{CodePlan}
use Rattle.tetra_puncture.specs.Trellis.{step_cost, over_branch, state_passed}
use Rattle.tetra_puncture.specs.declared.branches.Labels.{Labels}
use Rattle.tetra_puncture.specs.declared.branches.LaneCosts.{LaneCosts}

-- each generator has the terms 1 and D^4
unfoldable pub IsPaired : (ℕ → ℕ → Bool) → ℕ → Type 0
IsPaired taps outs = (i : ℕ) → 1 ≤ i → i ≤ outs → (taps i 0 ≡ true) × (taps i 4 ≡ true)

-- all bits of a lane, or none
unfoldable pub mask_of : Bool → ℕ
mask_of b = cond b 4294967295 0

-- the masks of each output of the branches with bit 0 from the even states
unfoldable pub HasMasks : (ℕ → ℕ → Bool) → ℕ → Labels → Type 0
HasMasks taps outs labels =
    (j i : ℕ) → j < 4 → i < 8
    → slice_index (slice_index_or labels.masks j []) i ≡ mask_of (branch_output taps outs (2 * i) false j)

-- whether a lane of a mask is set
unfoldable pub is_masked : List (List ℕ) → ℕ → ℕ → Bool
is_masked masks j i = cond (nat_eq (slice_index (slice_index_or masks j []) i) 0) false true

-- each lane has all bits or none
unfoldable pub AreMasks : List (List ℕ) → Type 0
AreMasks masks =
    (j i : ℕ) → j < 4 → i < 8 → slice_index (slice_index_or masks j []) i ≡ mask_of (is_masked masks j i)

-- the cost of four values as the outputs of a lane, and as their complements
unfoldable pub masked_cost : List (List ℕ) → List ℤ → ℕ → ℕ
masked_cost masks values i =
    cost (value_at values 0) (is_masked masks 0 i) + cost (value_at values 1) (is_masked masks 1 i)
    + cost (value_at values 2) (is_masked masks 2 i) + cost (value_at values 3) (is_masked masks 3 i)

unfoldable pub turned_cost : List (List ℕ) → List ℤ → ℕ → ℕ
turned_cost masks values i =
    cost (value_at values 0) (not (is_masked masks 0 i)) + cost (value_at values 1) (not (is_masked masks 1 i))
    + cost (value_at values 2) (not (is_masked masks 2 i)) + cost (value_at values 3) (not (is_masked masks 3 i))

-- the costs of the branches of step t by lanes
pub record AreLaneCosts (p : CodePlan) (wide : List ℤ) (t : ℕ) (costs : LaneCosts) : Type 0 where
  pub long : (length costs.even_zero ≡ 8) × (length costs.even_one ≡ 8) × (length costs.odd_zero ≡ 8) × (length costs.odd_one ≡ 8)
  pub even_zero : (i : ℕ) → i < 8 → slice_index costs.even_zero i ≡ step_cost p wide t (2 * i) false
  pub even_one : (i : ℕ) → i < 8 → slice_index costs.even_one i ≡ step_cost p wide t (2 * i) true
  pub odd_zero : (i : ℕ) → i < 8 → slice_index costs.odd_zero i ≡ step_cost p wide t (2 * i + 1) false
  pub odd_one : (i : ℕ) → i < 8 → slice_index costs.odd_one i ≡ step_cost p wide t (2 * i + 1) true

-- a branch of step t, and what a row says of the rest
unfoldable pub way_over : CodePlan → List ℤ → ℕ → List ℕ → ℕ → Bool → ℕ
way_over p wide t after s b = step_cost p wide t s b + slice_index after (next_state s b)

-- the lesser of both, but bit 0 alone at the last four steps
unfoldable pub least_over : CodePlan → List ℤ → ℕ → List ℕ → ℕ → ℕ
least_over p wide t after s =
    cond (nat_lt (t + 4) p.steps) (min (way_over p wide t after s false) (way_over p wide t after s true))
    (way_over p wide t after s false)

-- the lane of a state, where the even states stand in front and the odd ones behind
unfoldable pub lane_of : ℕ → ℕ
lane_of s = s / 2 + 8 * (s % 2)

-- the same modulo 2^32
unfoldable pub wrapped_way : CodePlan → List ℤ → ℕ → List ℕ → ℕ → Bool → ℕ
wrapped_way p wide t after s b = way_over p wide t after s b % 4294967296

-- the row of the lesser of both
unfoldable pub IsLeastRow : CodePlan → List ℤ → ℕ → List ℕ → List ℕ → Type 0
IsLeastRow p wide t after row =
    (s : ℕ) → s < 16
    → slice_index row s ≡ min (wrapped_way p wide t after s false) (wrapped_way p wide t after s true)

-- the row by bit 0 alone
unfoldable pub IsZeroRow : CodePlan → List ℤ → ℕ → List ℕ → List ℕ → Type 0
IsZeroRow p wide t after row = (s : ℕ) → s < 16 → slice_index row s ≡ wrapped_way p wide t after s false

-- the mark of a state
unfoldable pub mark_at : ℕ → ℕ → ℕ
mark_at marks s = marks / 2 ^ lane_of s % 2

-- a mark for each state, set where bit 0 gives the entry of the row
unfoldable pub AreMarks : CodePlan → List ℤ → ℕ → List ℕ → List ℕ → ℕ → Type 0
AreMarks p wide t after row marks =
    (s : ℕ) → s < 16
    → mark_at marks s ≡ cond (nat_eq (slice_index row s) (wrapped_way p wide t after s false)) 1 0

-- each bit of the message is 1 exactly where the state that it passes is not marked
unfoldable pub IsMarked : List ℕ → List Bool → Type 0
IsMarked marks m =
    (t : ℕ) → t < length m → bit_at m t ≡ nat_eq (mark_at (slice_index marks t) (state_passed m t)) 0

-- the free steps from t on are marked
pub record MarkedFrom (p : CodePlan) (wide : List ℤ) (rows : List (List ℕ)) (marks : List ℕ) (t : ℕ) : Type 0 where
  pub at : (u s : ℕ) → t ≤ u → u + 4 < p.steps → s < 16
      → mark_at (slice_index marks u) s ≡ cond (nat_eq (entry rows u s) (over_branch p wide rows u s false)) 1 0
