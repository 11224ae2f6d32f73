-- The metric of a word, place by place.
use Rattle.std.proofs.Common.{◌≡◌, ℕ, suc, ◌+◌, Bool, List, length, ℤ, arith, refl, ap, ◌∙◌}
use Rattle.tetra_bits.specs.Cost.{cost, cost_at, metric}
use Rattle.tetra_bits.specs.Order.{bit_at}
use Rattle.tetra_bits.specs.Soft.{value_at}
use Rattle.tetra_bits.specs.Sums.{sum_below}

pub none_yet : (values : List ℤ) (word : List Bool) → 0 ≡ sum_below 0 (cost_at values word)
unfolding sum_below
none_yet values word = refl

more : (f : ℕ → ℕ) (k : ℕ) → sum_below (suc k) f ≡ sum_below k f + f k
unfolding sum_below
more f k = refl

pub one_place : (values : List ℤ) (word : List Bool) (k sum paid : ℕ) (value : ℤ) (bit : Bool) → sum ≡ sum_below k (cost_at values word) →
    value ≡ value_at values k → bit ≡ bit_at word k → paid ≡ cost value bit → sum + paid ≡ sum_below (k + 1) (cost_at values word)
unfolding cost_at
one_place values word k sum paid value bit es ev eb ep =
    let next : k + 1 ≡ suc k = omega arith in
    let here : paid ≡ cost_at values word k = ep ∙ (ap (λ v. cost v bit) ev ∙ ap (cost (value_at values k)) eb) in
    rw next (omega (arith, more (cost_at values word) k))

pub all_places : (values : List ℤ) (word : List Bool) (k : ℕ) → k ≡ length values → sum_below k (cost_at values word) ≡ metric values word
unfolding metric
all_places values word k e = ap (λ n. sum_below n (cost_at values word)) e
