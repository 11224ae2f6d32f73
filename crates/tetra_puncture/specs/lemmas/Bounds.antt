-- How great costs can be.
use Rattle.std.proofs.Common.{ℕ, ◌+◌, ◌*◌, ◌≤◌, Bool, List, length, arith}
use Rattle.std.specs.Prelude.{ℤ, nat_abs}
use Rattle.tetra_bits.specs.Cost.{cost}
use Rattle.tetra_bits.specs.Soft.{IsSoft, AllSoft, AllWithin, value_at}
use Rattle.tetra_bits.specs.declared.soft.TheConstants.{SOFT_MAX}
use Rattle.tetra_bits.specs.lemmas.Within.{cost_within, soft_at, sum_within, metric_within}
use Rattle.tetra_mother.specs.Mother.{edge}
use Rattle.tetra_puncture.specs.Best.{message_metric}
use Rattle.tetra_puncture.specs.Plan.{CodePlan, word}
use Rattle.tetra_puncture.specs.Trellis.{output_cost, step_cost}

-- a soft value is a number of 16 bits
pub cost_fits : (v : ℤ) (b : Bool) → IsSoft v → cost v b ≤ 32768
cost_fits v b soft =
    let top : nat_abs SOFT_MAX ≤ 32768 = omega arith in
    let c : cost v b ≤ nat_abs SOFT_MAX = cost_within (nat_abs SOFT_MAX) v b soft in
    omega (arith, top, c)

-- so a branch of at most four outputs costs at most 2^17
pub step_cost_fits : (p : CodePlan) (wide : List ℤ) (t s : ℕ) (b : Bool) → p.outs ≤ 4 → AllSoft wide
    → step_cost p wide t s b ≤ 131072
unfolding step_cost output_cost
step_cost_fits p wide t s b few soft =
    let h : step_cost p wide t s b ≤ 32768 * p.outs =
    sum_within 32768 p.outs (output_cost p wide t s b)
    (λ i. cost_fits (value_at wide (p.outs * t + i)) (edge p.taps s b (i + 1)) (soft_at wide soft (p.outs * t + i))) in
    omega arith

-- a metric is at most top for each sent bit, where the values are from -top to top
pub message_metric_within : (top : ℕ) (p : CodePlan) (r : List ℤ) (m : List Bool) → AllWithin top r
    → message_metric p r m ≤ top * length r
unfolding message_metric
message_metric_within top p r m all = metric_within top r (word p m) all
