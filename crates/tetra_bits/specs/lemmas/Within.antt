-- Costs of values that are from -top to top.
use Prim.Native.Nat.{zero, suc}
use Rattle.std.proofs.Common.{ℕ, ◌*◌, ◌≤◌, inl, inr, Bool, true, false, List, length, arith}
use Rattle.std.specs.Prelude.{ℤ, pos, negsuc, ◌≤ℤ◌, neg_ℤ, nat_abs}
use Rattle.tetra_bits.specs.declared.soft.TheConstants.{SOFT_MAX}
use Rattle.std.proofs.lemmas.Bool.{cases_lt}
use Rattle.std.proofs.lemmas.Int.{ints}
use Rattle.std.proofs.lemmas.List.{get_or_past}
use Rattle.tetra_bits.specs.Order.{bit_at}
use Rattle.tetra_bits.specs.Soft.{IsWithin, AllWithin, IsSoft, AllSoft, value_at}
use Rattle.tetra_bits.specs.Sums.{sum_below}
use Rattle.tetra_bits.specs.Cost.{cost, cost_at, metric, MetricWithin}

below_minus : (top n : ℕ) → neg_ℤ (pos top) ≤ℤ negsuc n → suc n ≤ top
below_minus zero n h = omega (arith, ints, h)
below_minus (suc top) n h = omega (arith, ints, h)

at_most_above : (top n : ℕ) → suc n ≤ top → neg_ℤ (pos top) ≤ℤ pos (suc n)
at_most_above zero n h = absurd (omega (arith, h))
at_most_above (suc top) n h = omega (arith, ints)

zero_above : (top : ℕ) → neg_ℤ (pos top) ≤ℤ pos 0
zero_above zero = omega (arith, ints)
zero_above (suc top) = omega (arith, ints)

-- the sign turned
pub neg_within : (top : ℕ) (v : ℤ) → IsWithin top v → IsWithin top (neg_ℤ v)
neg_within top (pos zero) h = (zero_above top, h.1)
neg_within zero (pos (suc n)) h = absurd (omega (arith, ints, h))
neg_within (suc top) (pos (suc n)) h = (omega (arith, ints, h), omega (arith, ints))
neg_within top (negsuc n) h =
    let small : suc n ≤ top = below_minus top n h.0 in
    (at_most_above top n small, omega (arith, ints, small))

-- the cost of a value
pub cost_within : (top : ℕ) (v : ℤ) (b : Bool) → IsWithin top v → cost v b ≤ top
unfolding cost
cost_within top (pos n) true h = omega (arith, ints, h.1)
cost_within top (pos n) false h = omega arith
cost_within top (negsuc n) true h = omega arith
cost_within top (negsuc n) false h = below_minus top n h.0

-- the value at a place, also behind the end
pub within_at : (top : ℕ) (values : List ℤ) → AllWithin top values → (k : ℕ) → IsWithin top (value_at values k)
within_at top values all k = elim (cases_lt k (length values)) as (λ _. IsWithin top (value_at values k)) [
  | inl lt ↦ all k (pos 0) lt
  | inr past ↦ rw (get_or_past values k (pos 0) past) (zero_above top, omega (arith, ints))
]

pub soft_at : (values : List ℤ) → AllSoft values → (k : ℕ) → IsSoft (value_at values k)
soft_at values all k = within_at (nat_abs SOFT_MAX) values all k

-- terms that are at most top
pub sum_within : (top n : ℕ) (f : ℕ → ℕ) → ((k : ℕ) → f k ≤ top) → sum_below n f ≤ top * n
unfolding sum_below
sum_within top zero f small = omega arith
sum_within top (suc n) f small =
    let before : sum_below n f ≤ top * n = sum_within top n f small in
    let last : f n ≤ top = small n in
    omega (arith, before, last)

pub metric_within : MetricWithin
unfolding metric cost_at
metric_within top values bits all =
    sum_within top (length values) (cost_at values bits) (λ k. cost_within top (value_at values k) (bit_at bits k) (within_at top values all k))
