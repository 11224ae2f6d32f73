-- One step of the trellis, by its values and the row behind it. This project's own.
use Rattle.std.specs.Prelude.{◌≡◌, ℕ, ◌+◌, Bool, true, false, min, cond, nat_lt, List, [], slice_index, slice_index_or, ℤ}
use Rattle.tetra_bits.specs.Cost.{cost}
use Rattle.tetra_bits.specs.Soft.{value_at}
use Rattle.tetra_bits.specs.Sums.{sum_below}
use Rattle.tetra_mother.specs.Mother.{edge, next_state}
use Rattle.tetra_puncture.specs.Decoding.{least_branch}
use Rattle.tetra_puncture.specs.Labels.{IsStep}
use Rattle.tetra_puncture.specs.Plan.{CodePlan}

-- the cost of output i, counted from 0, of the branch from state s with bit b
unfoldable pub value_cost : (ℕ → ℕ → Bool) → List ℤ → ℕ → Bool → ℕ → ℕ
value_cost taps values s b i = cost (value_at values i) (edge taps s b (i + 1))

-- the cost of the branch, and what the row behind says of the rest
unfoldable pub way : (ℕ → ℕ → Bool) → ℕ → List ℤ → List ℕ → ℕ → Bool → ℕ
way taps outs values after s b = sum_below outs (value_cost taps values s b) + slice_index after (next_state s b)

-- the entry of state s in the row before the step: the lesser of both ways, or the way of bit 0 where bit 1 is not
-- allowed
unfoldable pub row_entry : (ℕ → ℕ → Bool) → ℕ → List ℤ → List ℕ → Bool → ℕ → ℕ
row_entry taps outs values after both s =
    cond both (min (way taps outs values after s false) (way taps outs values after s true))
    (way taps outs values after s false)

-- the lesser of the allowed ways of a table is the entry by the values of the step and the row behind it
abbrev pub LeastBranchIsRowEntry : Type 0
LeastBranchIsRowEntry =
    (p : CodePlan) (wide values : List ℤ) (table : List (List ℕ)) (t s : ℕ) → IsStep p.outs wide t values
    → least_branch p wide table t s
    ≡ row_entry p.taps p.outs values (slice_index_or table (t + 1) []) (nat_lt (t + 4) p.steps) s
