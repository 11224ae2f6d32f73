-- The cost to go as a function, and tables of it.
use Prim.Native.Nat.{zero, suc}
use Rattle.std.proofs.Common.{◌≡◌, ℕ, ◌+◌, ◌-◌, ◌≤◌, ◌⊎◌, inl, inr, min, Bool, false, List, [], ◌++◌, length, get_or, replicate, take, arith, refl, ap, sym, ◌∙◌, length-append}
use Rattle.std.specs.Prelude.{ℤ}
use Rattle.std.proofs.lemmas.Bool.{cases_lt}
use Rattle.std.proofs.lemmas.List.{ext_get_or, get_or_append_left, get_or-append_right, length-replicate, length-take-le, get_or-take}
use Rattle.tetra_bits.specs.Least.{best, Ranks}
use Rattle.tetra_bits.specs.Numbered.{is_numbered}
use Rattle.tetra_bits.specs.Order.{bit_at}
use Rattle.tetra_bits.specs.Readings.{entry}
use Rattle.tetra_bits.specs.lemmas.Best.{best_is_first}
use Rattle.tetra_puncture.specs.Plan.{CodePlan}
use Rattle.tetra_puncture.specs.Spread.{spread_values}
use Rattle.tetra_puncture.specs.Trellis.{cost_from, IsContinuation, AllCostsToGo}
use Rattle.tetra_puncture.specs.ToGo.{ended, rate_to_go, cost_to_go, potential, potential_row, potentials_of, CostToGoIsFound}
use Rattle.tetra_puncture.specs.Certified.{CostToGoIsOne}

-- a first-least list has no greater rate than another one
at_most : (rate : List Bool → ℕ) (m other : List Bool) → (m ≡ other) ⊎ Ranks rate m other → rate m ≤ rate other
unfolding Ranks
at_most rate m other (inl e) = rw e (omega arith)
at_most rate m other (inr (inl l)) = omega arith
at_most rate m other (inr (inr t)) = omega (arith, t.0)

zeros_at : (n k : ℕ) → get_or (replicate n false) k false ≡ false
zeros_at zero k = refl
zeros_at (suc n) zero = refl
zeros_at (suc n) (suc k) = zeros_at n k

module _ (p : CodePlan) (t : ℕ) (within : t ≤ p.steps) where
  ended_size : (bits : List Bool) → length bits ≡ p.steps - t - 4 → t + length (ended p t bits) ≡ p.steps
  unfolding ended
  ended_size bits l =
      let a : length (bits ++ replicate (min 4 (p.steps - t)) false) ≡ length bits + min 4 (p.steps - t) = length-append bits (replicate (min 4 (p.steps - t)) false) ∙ ap (λ n. length bits + n) (length-replicate (min 4 (p.steps - t)) false) in
      omega arith

  ended_zeros : (bits : List Bool) → length bits ≡ p.steps - t - 4 → (k : ℕ) → p.steps ≤ t + k + 4 → bit_at (ended p t bits) k ≡ false
  unfolding ended
  ended_zeros bits l k h =
      let past : length bits ≤ k = omega arith in
      get_or-append_right bits (replicate (min 4 (p.steps - t)) false) (length bits) k false refl past ∙ zeros_at (min 4 (p.steps - t)) (k - length bits)

  ended_goes_on : (bits : List Bool) → length bits ≡ p.steps - t - 4 → IsContinuation p t (ended p t bits)
  ended_goes_on bits l = record { to_the_end = ended_size bits l; zeros = ended_zeros bits l }

  -- every continuation is free bits and zeros
  front_size : (bits : List Bool) → IsContinuation p t bits → length (take (p.steps - t - 4) bits) ≡ p.steps - t - 4
  front_size bits c = length-take-le (p.steps - t - 4) bits (omega (arith, c.to_the_end))

  is_ended : (bits : List Bool) → IsContinuation p t bits → ended p t (take (p.steps - t - 4) bits) ≡ bits
  unfolding ended
  is_ended bits c =
      let f : length (take (p.steps - t - 4) bits) ≡ p.steps - t - 4 = front_size bits c in
      let size : length (take (p.steps - t - 4) bits ++ replicate (min 4 (p.steps - t)) false) ≡ length bits = length-append (take (p.steps - t - 4) bits) (replicate (min 4 (p.steps - t)) false) ∙ ap (λ n. length (take (p.steps - t - 4) bits) + n) (length-replicate (min 4 (p.steps - t)) false) ∙ omega (arith, c.to_the_end) in
      ext_get_or false _ bits size (λ k h.
      elim (cases_lt k (p.steps - t - 4)) [
        | inl lt ↦ get_or_append_left (take (p.steps - t - 4) bits) (replicate (min 4 (p.steps - t)) false) false k (omega arith) ∙ get_or-take (p.steps - t - 4) bits k false lt
        | inr ge ↦ ended_zeros (take (p.steps - t - 4) bits) f k (omega arith) ∙ sym (c.zeros k (omega arith))
      ])

pub cost_to_go_is_found : CostToGoIsFound
unfolding cost_to_go rate_to_go
cost_to_go_is_found p wide t s within =
    let free : ℕ = p.steps - t - 4 in
    let first = best_is_first free (rate_to_go p wide t s) in
    record {
      reached = (ended p t (best free (rate_to_go p wide t s)), ended_goes_on p t within (best free (rate_to_go p wide t s)) first.has_length, refl);
      least = λ bits c.
          let m : rate_to_go p wide t s (best free (rate_to_go p wide t s)) ≤ rate_to_go p wide t s (take free bits) = at_most (rate_to_go p wide t s) _ _ (first.beats (take free bits) (front_size p t within bits c)) in
          let e : cost_from p wide t s (ended p t (take free bits)) ≡ cost_from p wide t s bits = ap (cost_from p wide t s) (is_ended p t within bits c) in
          omega arith;
    }

-- a table of costs to go is the table of potentials
pub table_is_potentials : (p : CodePlan) (r : List ℤ) (table : List (List ℕ)) → CostToGoIsOne → length table ≡ p.steps + 1 → ((t : ℕ) → t ≤ p.steps → length (get_or table t []) ≡ 16)
    → AllCostsToGo p (spread_values p r) table → table ≡ potentials_of p r
unfolding potentials_of potential_row potential AllCostsToGo entry
table_is_potentials p r table one rows states exact =
    is_numbered (potential_row p (spread_values p r)) (p.steps + 1) [] table rows (λ t h.
    is_numbered (potential p (spread_values p r) (t + 1)) 16 0 (get_or table t []) (states t (omega arith)) (λ s g.
    let back_t : t + 1 - 1 ≡ t = omega arith in
    let back_s : s + 1 - 1 ≡ s = omega arith in
    let within : t ≤ p.steps = omega arith in
    rw (back_t, back_s) (one p (spread_values p r) t s _ _ (exact t s within g) (cost_to_go_is_found p (spread_values p r) t s within))))
