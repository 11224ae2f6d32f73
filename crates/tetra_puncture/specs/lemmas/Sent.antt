-- Where all values are from -top to top a cost to go is at most top for each sent bit, since places that are not sent
-- cost nothing.
use Prim.Native.Nat.{zero, suc}
use Rattle.std.proofs.Common.{◌≡◌, ℕ, ◌+◌, ◌-◌, ◌*◌, ◌<◌, ◌≤◌, Bool, true, false, List, [], ◌∷◌, length, ℤ, pos, negsuc, arith, refl, ◌∙◌, ap}
use Rattle.tetra_bits.specs.Cost.{cost}
use Rattle.tetra_bits.specs.Soft.{IsWithin, AllWithin, value_at}
use Rattle.tetra_bits.specs.Sums.{sum_below}
use Rattle.tetra_bits.specs.lemmas.Within.{cost_within, within_at}
use Rattle.tetra_mother.specs.Mother.{edge, next_state}
use Rattle.tetra_puncture.specs.Plan.{CodePlan, PlacesRise, PlacesLie}
use Rattle.tetra_puncture.specs.Spread.{spread_value, spread_values}
use Rattle.tetra_puncture.specs.Trellis.{output_cost, step_cost, cost_from, IsCostToGo}
use Rattle.tetra_puncture.specs.lemmas.Paths.{sum_parts, sum_placed}
use Rattle.tetra_puncture.specs.lemmas.Values.{value_sent, value_not_sent, value_at_spread}

-- what the dearer bit costs at a value
dearer : ℤ → ℕ
dearer v = cost v true + cost v false

dearer_none : dearer (pos 0) ≡ 0
unfolding dearer cost
dearer_none = refl

dearer_within : (top : ℕ) (v : ℤ) → IsWithin top v → dearer v ≤ top
unfolding dearer cost
dearer_within top (pos n) h = let s : cost (pos n) true ≤ top = cost_within top (pos n) true h in omega arith
dearer_within top (negsuc n) h = let s : cost (negsuc n) false ≤ top = cost_within top (negsuc n) false h in omega arith

below_dearer : (v : ℤ) (b : Bool) → cost v b ≤ dearer v
unfolding dearer
below_dearer v true = omega arith
below_dearer v false = omega arith

at_place : List ℤ → ℕ → ℕ
at_place wide v = dearer (value_at wide v)

sum_below_each : (n : ℕ) (f g : ℕ → ℕ) → ((k : ℕ) → k < n → f k ≤ g k) → sum_below n f ≤ sum_below n g
unfolding sum_below
sum_below_each zero f g h = omega arith
sum_below_each (suc n) f g h =
    let a : sum_below n f ≤ sum_below n g = sum_below_each n f g (λ k l. h k (omega arith)) in
    let b : f n ≤ g n = h n (omega arith) in
    omega arith

sum_at_most : (top n : ℕ) (f : ℕ → ℕ) → ((k : ℕ) → k < n → f k ≤ top) → sum_below n f ≤ top * n
unfolding sum_below
sum_at_most top zero f h = omega arith
sum_at_most top (suc n) f h =
    let a : sum_below n f ≤ top * n = sum_at_most top n f (λ k l. h k (omega arith)) in
    let b : f n ≤ top = h n (omega arith) in
    omega (arith, a, b)

-- the dearer bits of all places from step t on, at least what any bits cost
step_below : (p : CodePlan) (wide : List ℤ) (t s : ℕ) (b : Bool) → step_cost p wide t s b ≤ sum_below p.outs (λ i. at_place wide (p.outs * t + i))
unfolding step_cost output_cost at_place
step_below p wide t s b = sum_below_each p.outs (output_cost p wide t s b) (λ i. at_place wide (p.outs * t + i)) (λ i h. below_dearer (value_at wide (p.outs * t + i)) (edge p.taps s b (i + 1)))

cost_below : (p : CodePlan) (wide : List ℤ) (t s : ℕ) (bits : List Bool) → sum_below (p.outs * t) (at_place wide) + cost_from p wide t s bits ≤ sum_below (p.outs * (t + length bits)) (at_place wide)
unfolding cost_from
cost_below p wide t s [] = let e : t + 0 ≡ t = omega arith in rw e (omega arith)
cost_below p wide t s (b ∷ bits) =
    let next : p.outs * (t + 1) ≡ p.outs * t + p.outs = omega arith in
    let here : sum_below (p.outs * t + p.outs) (at_place wide) ≡ sum_below (p.outs * t) (at_place wide) + sum_below p.outs (λ i. at_place wide (p.outs * t + i)) = sum_parts (p.outs * t) p.outs (at_place wide) in
    let step : step_cost p wide t s b ≤ sum_below p.outs (λ i. at_place wide (p.outs * t + i)) = step_below p wide t s b in
    let rest : sum_below (p.outs * (t + 1)) (at_place wide) + cost_from p wide (t + 1) (next_state s b) bits ≤ sum_below (p.outs * (t + 1 + length bits)) (at_place wide) = cost_below p wide (t + 1) (next_state s b) bits in
    let moved : sum_below (p.outs * t + p.outs) (at_place wide) + cost_from p wide (t + 1) (next_state s b) bits ≤ sum_below (p.outs * (t + 1 + length bits)) (at_place wide) = rw next at rest in
    let end : t + suc (length bits) ≡ t + 1 + length bits = omega arith in
    rw end (omega (arith, moved, here, step))

-- all places cost at most top for each sent one
places_within : (top : ℕ) (p : CodePlan) (r : List ℤ) → PlacesRise p → PlacesLie p → AllWithin top r → sum_below (p.outs * p.steps) (at_place (spread_values p r)) ≤ top * p.sent
unfolding at_place
places_within top p r rise lie all =
    let wide : List ℤ = spread_values p r in
    let placed : sum_below (p.outs * p.steps) (at_place wide) ≡ sum_below p.sent (λ k. at_place wide (p.place (k + 1) - 1)) =
    sum_placed p rise lie (at_place wide) (p.outs * p.steps) p.sent (omega arith) (λ j a b. let l = lie j a b in l.1) (λ v h unsent.
    ap dearer (value_at_spread p r v h ∙ value_not_sent p r (v + 1) unsent) ∙ dearer_none) in
    let each : sum_below p.sent (λ k. at_place wide (p.place (k + 1) - 1)) ≤ top * p.sent =
    sum_at_most top p.sent (λ k. at_place wide (p.place (k + 1) - 1)) (λ k h.
    let low = lie (k + 1) (omega arith) (omega arith) in
    let back : p.place (k + 1) - 1 + 1 ≡ p.place (k + 1) = omega arith in
    let first : k + 1 - 1 ≡ k = omega arith in
    let value : value_at wide (p.place (k + 1) - 1) ≡ value_at r k =
    value_at_spread p r (p.place (k + 1) - 1) (omega arith) ∙ ap (spread_value p r) back ∙ value_sent p r rise (k + 1) (omega arith) (omega arith) ∙ ap (value_at r) first in
    rw value (dearer_within top (value_at r k) (within_at top r all k))) in
    omega arith

-- a cost to go is at most top for each sent bit
pub cost_to_go_within : (top : ℕ) (p : CodePlan) (r : List ℤ) (t s n : ℕ) → PlacesRise p → PlacesLie p → AllWithin top r → IsCostToGo p (spread_values p r) t s n → n ≤ top * p.sent
cost_to_go_within top p r t s n rise lie all c =
    let bits : List Bool = c.reached.0 in
    let end : t + length bits ≡ p.steps = c.reached.1.to_the_end in
    let costs = cost_below p (spread_values p r) t s bits in
    let whole : sum_below (p.outs * t) (at_place (spread_values p r)) + cost_from p (spread_values p r) t s bits ≤ sum_below (p.outs * p.steps) (at_place (spread_values p r)) = rw end at costs in
    let few : sum_below (p.outs * p.steps) (at_place (spread_values p r)) ≤ top * p.sent = places_within top p r rise lie all in
    let is : cost_from p (spread_values p r) t s bits ≡ n = c.reached.2 in
    omega arith
