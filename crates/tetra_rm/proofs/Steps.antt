-- The sum of the costs of a word, of which some places are turned one behind the other.
use Prim.Native.Nat.{zero, suc}
use Rattle.std.proofs.Common.{◌≡◌, ℕ, ◌+◌, ◌*◌, ◌^◌, ◌<◌, ◌≤◌, inl, inr, Bool, false, List, length, get_or, arith, ap, sym, ◌∙◌}
use Rattle.std.specs.Prelude.{ℤ, nat_abs}
use Rattle.std.proofs.lemmas.Bool.{cases_lt}
use Rattle.tetra_bits.specs.Cost.{cost, cost_at, metric}
use Rattle.tetra_bits.specs.Soft.{AllSoft, value_at}
use Rattle.tetra_bits.specs.Sums.{add2, sum_below}
use Rattle.tetra_bits.specs.declared.soft.TheConstants.{SOFT_MAX}
use Rattle.tetra_bits.specs.lemmas.Within.{cost_within, within_at, sum_within}

pub sum_next : (n : ℕ) (f : ℕ → ℕ) → sum_below (n + 1) f ≡ sum_below n f + f n
unfolding sum_below
sum_next n f = let e : n + 1 ≡ suc n = omega arith in ap (λ k. sum_below k f) e

front_of_sum : (n k : ℕ) (f : ℕ → ℕ) → k < n → sum_below k f + f k ≤ sum_below n f
unfolding sum_below
front_of_sum zero k f h = absurd (omega arith)
front_of_sum (suc n) k f h = elim (cases_lt k n) [
  | inl lower ↦ let most : sum_below k f + f k ≤ sum_below n f = front_of_sum n k f lower in omega arith
  | inr ge ↦ let last : k ≡ n = omega arith in rw last (omega arith)
]

pub soft_sum : (soft : List ℤ) (word : List Bool) (n : ℕ) → AllSoft soft → sum_below n (cost_at soft word) ≤ nat_abs SOFT_MAX * n
unfolding cost_at
soft_sum soft word n within = sum_within (nat_abs SOFT_MAX) n (cost_at soft word) (λ k. cost_within (nat_abs SOFT_MAX) _ _ (within_at (nat_abs SOFT_MAX) soft within k))

-- the costs in front of place k are those of the new word already
module _ (soft : List ℤ) (size : length soft ≡ 30) (within : AllSoft soft) (old new : List Bool) (whole sum k : ℕ)
    (metric_is : whole ≡ metric soft old) (so_far : sum + sum_below k (cost_at soft old) ≡ whole + sum_below k (cost_at soft new)) where
  whole_sum : whole ≡ sum_below 30 (cost_at soft old)
  unfolding metric
  whole_sum = metric_is ∙ ap (λ n. sum_below n (cost_at soft old)) size

  pub still_there : k < 30 → cost_at soft old k ≤ sum
  still_there h =
      let front : sum_below k (cost_at soft old) + cost_at soft old k ≤ sum_below 30 (cost_at soft old) = front_of_sum 30 k (cost_at soft old) h in
      omega (arith, whole_sum)

  pub has_room : k < 30 → (b : Bool) → sum + cost (value_at soft k) b < 2 ^ 32
  has_room h b =
      let a : sum_below 30 (cost_at soft old) ≤ nat_abs SOFT_MAX * 30 = soft_sum soft old 30 within in
      let d : sum_below k (cost_at soft new) ≤ nat_abs SOFT_MAX * k = soft_sum soft new k within in
      let one : cost (value_at soft k) b ≤ nat_abs SOFT_MAX = cost_within (nat_abs SOFT_MAX) (value_at soft k) b (within_at (nat_abs SOFT_MAX) soft within k) in
      omega (arith, whole_sum)

  pub one_more : (turn : Bool) (result : ℕ) → get_or new k false ≡ add2 (get_or old k false) turn
      → result + cost_at soft old k ≡ sum + cost (value_at soft k) (add2 (get_or old k false) turn)
      → result + sum_below (k + 1) (cost_at soft old) ≡ whole + sum_below (k + 1) (cost_at soft new)
  unfolding cost_at
  one_more turn result bit step =
      let a : sum_below (k + 1) (cost_at soft old) ≡ sum_below k (cost_at soft old) + cost (value_at soft k) (get_or old k false) = sum_next k (cost_at soft old) in
      let b : sum_below (k + 1) (cost_at soft new) ≡ sum_below k (cost_at soft new) + cost (value_at soft k) (get_or new k false) = sum_next k (cost_at soft new) in
      let same : cost (value_at soft k) (get_or new k false) ≡ cost (value_at soft k) (add2 (get_or old k false) turn) = ap (cost (value_at soft k)) bit in
      omega arith

  -- behind the last place
  pub is_metric : k ≡ 30 → sum ≡ metric soft new
  unfolding metric
  is_metric end =
      let a : sum_below k (cost_at soft old) ≡ sum_below 30 (cost_at soft old) = ap (λ n. sum_below n (cost_at soft old)) end in
      let b : sum_below k (cost_at soft new) ≡ sum_below 30 (cost_at soft new) = ap (λ n. sum_below n (cost_at soft new)) end in
      let c : sum ≡ sum_below 30 (cost_at soft new) = omega (arith, whole_sum) in
      c ∙ ap (λ n. sum_below n (cost_at soft new)) (sym size)
