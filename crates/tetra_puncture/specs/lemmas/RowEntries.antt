-- The lesser of the allowed ways, by the values of the step and the row behind it.
use Rattle.std.proofs.Common.{◌≡◌, ℕ, ◌+◌, Bool, true, false, List, [], get_or, ℤ, refl, ap}
use Rattle.tetra_bits.specs.Readings.{entry}
use Rattle.tetra_bits.specs.Sums.{sum_below}
use Rattle.tetra_bits.specs.lemmas.Signs.{sum_same}
use Rattle.tetra_mother.specs.Mother.{next_state}
use Rattle.tetra_puncture.specs.Decoding.{least_branch}
use Rattle.tetra_puncture.specs.Labels.{IsStep}
use Rattle.tetra_puncture.specs.Plan.{CodePlan}
use Rattle.tetra_puncture.specs.Steps.{value_cost, way, row_entry, LeastBranchIsRowEntry}
use Rattle.tetra_puncture.specs.Trellis.{output_cost, step_cost, over_branch}

step_is : (p : CodePlan) (wide values : List ℤ) (t s : ℕ) (b : Bool) → IsStep p.outs wide t values
    → step_cost p wide t s b ≡ sum_below p.outs (value_cost p.taps values s b)
unfolding step_cost output_cost value_cost
step_is p wide values t s b step =
    sum_same p.outs (output_cost p wide t s b) (value_cost p.taps values s b) (λ i h. rw (step.within i h) refl)

way_is : (p : CodePlan) (wide values : List ℤ) (table : List (List ℕ)) (t s : ℕ) (b : Bool) → IsStep p.outs wide t values
    → over_branch p wide table t s b ≡ way p.taps p.outs values (get_or table (t + 1) []) s b
unfolding over_branch entry way
way_is p wide values table t s b step =
    ap (λ n. n + get_or (get_or table (t + 1) []) (next_state s b) 0) (step_is p wide values t s b step)

pub least_branch_is_row_entry : LeastBranchIsRowEntry
unfolding least_branch row_entry
least_branch_is_row_entry p wide values table t s step =
    let zero = way_is p wide values table t s false step in
    let one = way_is p wide values table t s true step in
    rw (zero, one) refl
