-- The metric of a message over its sent places is the cost of its path over the spread values.
use Prim.Native.Nat.{zero, suc}
use Rattle.std.proofs.Common.{◌≡◌, ◌≢◌, ℕ, ◌+◌, ◌-◌, ◌*◌, ◌<◌, ◌≤◌, inl, inr, Bool, true, false, List, [], ◌∷◌, length, ℤ, pos, arith, refl, sym, ◌∙◌, ap}
use Rattle.std.proofs.lemmas.Bool.{cases_eq}
use Rattle.tetra_bits.specs.Cost.{cost, cost_at, metric}
use Rattle.tetra_bits.specs.Order.{bit_at}
use Rattle.tetra_bits.specs.Soft.{value_at}
use Rattle.tetra_bits.specs.Sums.{sum_below}
use Rattle.tetra_bits.specs.lemmas.Signs.{sum_same}
use Rattle.tetra_mother.specs.Mother.{edge, mother_bit, next_state, state_before}
use Rattle.tetra_mother.specs.lemmas.States.{edge_is_output}
use Rattle.tetra_puncture.specs.Plan.{CodePlan, PlacesRise, PlacesLie, IsMessage, tailed, sent_bit, word}
use Rattle.tetra_puncture.specs.Best.{message_metric}
use Rattle.tetra_puncture.specs.lemmas.Differ.{output_place, word_entry}
use Rattle.tetra_puncture.specs.Spread.{spread_value, spread_values}
use Rattle.tetra_puncture.specs.Trellis.{output_cost, step_cost, cost_from, bit_taken, state_passed}
use Rattle.tetra_puncture.specs.lemmas.Front.{rise_far}
use Rattle.tetra_puncture.specs.lemmas.Steps.{bit_taken_back, state_passed_first, state_passed_more, length-tailed}
use Rattle.tetra_puncture.specs.lemmas.Values.{value_sent, value_not_sent, value_at_spread}

sum_more : (n : ℕ) (f : ℕ → ℕ) → sum_below (n + 1) f ≡ sum_below n f + f n
unfolding sum_below
sum_more n f = let e : n + 1 ≡ suc n = omega arith in rw e refl

-- a sum of two parts
pub sum_parts : (a b : ℕ) (f : ℕ → ℕ) → sum_below (a + b) f ≡ sum_below a f + sum_below b (λ k. f (a + k))
unfolding sum_below
sum_parts a zero f = let e : a + 0 ≡ a = omega arith in rw e (omega arith)
sum_parts a (suc b) f =
    let e : a + suc b ≡ suc (a + b) = omega arith in
    let h : sum_below (a + b) f ≡ sum_below a f + sum_below b (λ k. f (a + k)) = sum_parts a b f in
    rw e (omega (arith, h))

-- a sum in rows of the same length
sum_rows : (outs n : ℕ) (f : ℕ → ℕ) → sum_below (outs * n) f ≡ sum_below n (λ t. sum_below outs (λ i. f (outs * t + i)))
unfolding sum_below
sum_rows outs zero f = let e : outs * 0 ≡ 0 = omega arith in rw e refl
sum_rows outs (suc n) f =
    let e : outs * suc n ≡ outs * n + outs = omega arith in
    let a : sum_below (outs * n + outs) f ≡ sum_below (outs * n) f + sum_below outs (λ i. f (outs * n + i)) = sum_parts (outs * n) outs f in
    let b : sum_below (outs * n) f ≡ sum_below n (λ t. sum_below outs (λ i. f (outs * t + i))) = sum_rows outs n f in
    rw e (omega (arith, a, b))

-- a sum of terms that are 0 but at the places of the first n sent bits
module _ (p : CodePlan) (rise : PlacesRise p) (lie : PlacesLie p) (f : ℕ → ℕ) where
  pub sum_placed : (m n : ℕ) → n ≤ p.sent → ((j : ℕ) → 1 ≤ j → j ≤ n → p.place j ≤ m) →
      ((v : ℕ) → v < m → ((j : ℕ) → 1 ≤ j → j ≤ n → p.place j ≢ v + 1) → f v ≡ 0) →
      sum_below m f ≡ sum_below n (λ k. f (p.place (k + 1) - 1))
  unfolding sum_below
  sum_placed zero zero few below other = refl
  sum_placed zero (suc n) few below other =
      let low = lie (suc n) (omega arith) few in
      absurd (omega (arith, low, below (suc n) (omega arith) (omega arith)))
  sum_placed (suc m) zero few below other =
      let here : f m ≡ 0 = other m (omega arith) (λ j a b. absurd (omega arith)) in
      let rest : sum_below m f ≡ 0 = sum_placed m zero few (λ j a b. absurd (omega arith)) (λ v h unsent. other v (omega arith) unsent) in
      omega arith
  sum_placed (suc m) (suc n) few below other = elim (cases_eq (p.place (suc n)) (suc m)) [
    | inl e ↦
        let same : n + 1 ≡ suc n = omega arith in
        let back : p.place (suc n) - 1 ≡ m = omega arith in
        let rest : sum_below m f ≡ sum_below n (λ k. f (p.place (k + 1) - 1)) =
        sum_placed m n (omega arith) (λ j a b. let lt = rise_far p rise j (suc n) a (omega arith) few in omega arith) (λ v h unsent. other v (omega arith) (λ j a b. elim (cases_eq j (suc n)) [
          | inl is ↦ rw is (λ at_v. absurd (omega arith))
          | inr ne ↦ unsent j a (omega arith)
        ])) in
        rw (same, back) (ap (λ u. u + f m) rest)
    | inr ne ↦
        let last : p.place (suc n) ≤ suc m = below (suc n) (omega arith) (omega arith) in
        let here : f m ≡ 0 = other m (omega arith) (λ j a b. elim (cases_eq j (suc n)) [
          | inl is ↦ rw is (λ at_m. absurd (omega arith))
          | inr less ↦ λ at_m. absurd (let lt = rise_far p rise j (suc n) a (omega arith) few in omega arith)
        ]) in
        let rest : sum_below m f ≡ sum_below (suc n) (λ k. f (p.place (k + 1) - 1)) =
        sum_placed m (suc n) few (λ j a b. elim (cases_eq j (suc n)) [
          | inl is ↦ rw is (omega arith)
          | inr less ↦ let lt = rise_far p rise j (suc n) a (omega arith) few in omega arith
        ]) (λ v h unsent. other v (omega arith) unsent) in
        omega (arith, rest, here)
  ]

-- the cost of the mother bit at a place, which counts from 0 here
unfoldable place_cost : CodePlan → List ℤ → List Bool → ℕ → ℕ
place_cost p wide m v = cost (value_at wide v) (mother_bit p.taps p.outs (tailed m) (v + 1))

no_cost : (b : Bool) → cost (pos 0) b ≡ 0
unfolding cost
no_cost true = refl
no_cost false = refl

sent_cost : (p : CodePlan) (r : List ℤ) (m : List Bool) → PlacesRise p → PlacesLie p → (k : ℕ) → k < p.sent → cost_at r (word p m) k ≡ place_cost p (spread_values p r) m (p.place (k + 1) - 1)
unfolding cost_at place_cost sent_bit
sent_cost p r m rise lie k h =
    let low = lie (k + 1) (omega arith) (omega arith) in
    let back : p.place (k + 1) - 1 + 1 ≡ p.place (k + 1) = omega arith in
    let first : k + 1 - 1 ≡ k = omega arith in
    let value : value_at (spread_values p r) (p.place (k + 1) - 1) ≡ value_at r k =
    value_at_spread p r (p.place (k + 1) - 1) (omega arith) ∙ ap (spread_value p r) back ∙ value_sent p r rise (k + 1) (omega arith) (omega arith) ∙ ap (value_at r) first in
    let bit : bit_at (word p m) k ≡ mother_bit p.taps p.outs (tailed m) (p.place (k + 1)) = word_entry p m k h in
    rw (value, bit, back) refl

other_cost : (p : CodePlan) (r : List ℤ) (m : List Bool) (v : ℕ) → v < p.outs * p.steps → ((j : ℕ) → 1 ≤ j → j ≤ p.sent → p.place j ≢ v + 1) → place_cost p (spread_values p r) m v ≡ 0
unfolding place_cost
other_cost p r m v h unsent =
    let value : value_at (spread_values p r) v ≡ pos 0 = value_at_spread p r v h ∙ value_not_sent p r (v + 1) unsent in
    rw value (no_cost (mother_bit p.taps p.outs (tailed m) (v + 1)))

-- the costs of the sent bits are those of all places
sent_sum : (p : CodePlan) (r : List ℤ) (m : List Bool) → PlacesRise p → PlacesLie p → length r ≡ p.sent →
    message_metric p r m ≡ sum_below (p.outs * p.steps) (place_cost p (spread_values p r) m)
unfolding message_metric metric
sent_sum p r m rise lie long =
    ap (λ n. sum_below n (cost_at r (word p m))) long
    ∙ sum_same p.sent (cost_at r (word p m)) (λ k. place_cost p (spread_values p r) m (p.place (k + 1) - 1)) (sent_cost p r m rise lie)
    ∙ sym (sum_placed p rise lie (place_cost p (spread_values p r) m) (p.outs * p.steps) p.sent (omega arith) (λ j a b. let l = lie j a b in l.1) (other_cost p r m))

-- the cost of the step that a message takes
unfoldable taken_cost : CodePlan → List ℤ → List Bool → ℕ → ℕ
taken_cost p wide m t = step_cost p wide t (state_passed m t) (bit_taken m t)

bit_is_edge : (p : CodePlan) (m : List Bool) (t i : ℕ) → i < p.outs → mother_bit p.taps p.outs (tailed m) (p.outs * t + i + 1) ≡ edge p.taps (state_passed m t) (bit_taken m t) (i + 1)
unfolding state_passed
bit_is_edge p m t i h =
    output_place p.taps (tailed m) p.outs t (i + 1) (p.outs * t + i + 1) (omega arith) (omega arith) (omega arith)
    ∙ sym (edge_is_output p.taps (tailed m) (t + 1) (i + 1) (state_before (tailed m) (t + 1)) (bit_taken m t) refl (bit_taken_back m t))

place_is_output : (p : CodePlan) (wide : List ℤ) (m : List Bool) (t i : ℕ) → i < p.outs → place_cost p wide m (p.outs * t + i) ≡ output_cost p wide t (state_passed m t) (bit_taken m t) i
unfolding place_cost output_cost
place_is_output p wide m t i h = ap (cost (value_at wide (p.outs * t + i))) (bit_is_edge p m t i h)

-- the places of a step are the outputs of the branch that the message takes
row_cost : (p : CodePlan) (wide : List ℤ) (m : List Bool) (t : ℕ) → sum_below p.outs (λ i. place_cost p wide m (p.outs * t + i)) ≡ taken_cost p wide m t
unfolding taken_cost step_cost
row_cost p wide m t =
    sum_same p.outs (λ i. place_cost p wide m (p.outs * t + i)) (output_cost p wide t (state_passed m t) (bit_taken m t)) (place_is_output p wide m t)

taken_step : (p : CodePlan) (wide : List ℤ) (m : List Bool) (t : ℕ) → taken_cost p wide m t ≡ step_cost p wide t (state_passed m t) (bit_taken m t)
unfolding taken_cost
taken_step p wide m t = refl

taken_at : (m : List Bool) (k : ℕ) → bit_at (tailed m) k ≡ bit_taken m k
unfolding bit_taken
taken_at m k = refl

-- the steps before step t, and then the bits from there on
sum_and_path : (p : CodePlan) (wide : List ℤ) (m bits : List Bool) (t : ℕ) → ((k : ℕ) → bit_at bits k ≡ bit_taken m (t + k)) →
    sum_below (t + length bits) (taken_cost p wide m) ≡ sum_below t (taken_cost p wide m) + cost_from p wide t (state_passed m t) bits
unfolding cost_from
sum_and_path p wide m [] t same = let e : t + length {A = Bool} [] ≡ t = omega arith in rw e (omega arith)
sum_and_path p wide m (b ∷ bits) t same =
    let here : bit_taken m t ≡ b = let e : t ≡ t + 0 = omega arith in ap (bit_taken m) e ∙ sym (same 0) in
    let rest : sum_below (t + 1 + length bits) (taken_cost p wide m) ≡ sum_below (t + 1) (taken_cost p wide m) + cost_from p wide (t + 1) (state_passed m (t + 1)) bits =
    sum_and_path p wide m bits (t + 1) (λ k. let e : t + suc k ≡ t + 1 + k = omega arith in same (suc k) ∙ ap (bit_taken m) e) in
    let more : sum_below (t + 1) (taken_cost p wide m) ≡ sum_below t (taken_cost p wide m) + taken_cost p wide m t = sum_more t (taken_cost p wide m) in
    let long : t + suc (length bits) ≡ t + 1 + length bits = omega arith in
    let step : taken_cost p wide m t ≡ step_cost p wide t (state_passed m t) b = taken_step p wide m t ∙ ap (step_cost p wide t (state_passed m t)) here in
    let tail : cost_from p wide (t + 1) (state_passed m (t + 1)) bits ≡ cost_from p wide (t + 1) (next_state (state_passed m t) b) bits =
    ap (λ s. cost_from p wide (t + 1) s bits) (state_passed_more m t ∙ ap (next_state (state_passed m t)) here) in
    rw long (omega arith)

-- the metric of a message is the cost of its path
pub metric_is_cost : (p : CodePlan) (r : List ℤ) (m : List Bool) → PlacesRise p → PlacesLie p → length r ≡ p.sent → IsMessage p m →
    message_metric p r m ≡ cost_from p (spread_values p r) 0 0 (tailed m)
unfolding sum_below
metric_is_cost p r m rise lie values long =
    let wide : List ℤ = spread_values p r in
    let steps : p.steps ≡ 0 + length (tailed m) = omega (arith, length-tailed m) in
    let whole : sum_below (0 + length (tailed m)) (taken_cost p wide m) ≡ 0 + cost_from p wide 0 (state_passed m 0) (tailed m) =
    sum_and_path p wide m (tailed m) 0 (λ k. let e : k ≡ 0 + k = omega arith in taken_at m k ∙ ap (bit_taken m) e) in
    sent_sum p r m rise lie values
    ∙ sum_rows p.outs p.steps (place_cost p wide m)
    ∙ sum_same p.steps (λ t. sum_below p.outs (λ i. place_cost p wide m (p.outs * t + i))) (taken_cost p wide m) (λ t h. row_cost p wide m t)
    ∙ ap (λ n. sum_below n (taken_cost p wide m)) steps
    ∙ whole
    ∙ ap (λ s. 0 + cost_from p wide 0 s (tailed m)) (state_passed_first m)
    ∙ omega arith
