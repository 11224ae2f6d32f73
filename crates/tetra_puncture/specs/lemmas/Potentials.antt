-- What the last row and the edges of a table say of all continuations.
use Prim.Native.Nat.{zero, suc}
use Rattle.std.proofs.Common.{◌≡◌, ℕ, ◌+◌, ◌-◌, ◌<◌, ◌≤◌, Bool, List, [], ◌∷◌, ℤ, arith, refl, sym, ◌∙◌, ap}
use Rattle.tetra_bits.specs.Readings.{entry}
use Rattle.tetra_mother.specs.Mother.{next_state}
use Rattle.tetra_mother.specs.lemmas.States.{next_small}
use Rattle.tetra_puncture.specs.Plan.{CodePlan}
use Rattle.tetra_puncture.specs.Trellis.{step_cost, cost_from, IsAllowed, IsContinuation, IsCostToGo, over_branch}
use Rattle.tetra_puncture.specs.lemmas.Steps.{behind_first, first_allowed, in_front}

-- the last row is 0, and no entry is above what an allowed branch leads to
pub record IsPotential (p : CodePlan) (wide : List ℤ) (table : List (List ℕ)) : Type 0 where
  pub end : (s : ℕ) → s < 16 → entry table p.steps s ≡ 0
  pub edge : (t s : ℕ) (b : Bool) → t < p.steps → s < 16 → IsAllowed p t b → entry table t s ≤ over_branch p wide table t s b

-- each entry is what some allowed branch leads to
pub record IsAttained (p : CodePlan) (wide : List ℤ) (table : List (List ℕ)) : Type 0 where
  pub branch : (t s : ℕ) → t < p.steps → s < 16 → (b : Bool) × IsAllowed p t b × (entry table t s ≡ over_branch p wide table t s b)

-- no entry is above the cost of a continuation
pub entry_below : (p : CodePlan) (wide : List ℤ) (table : List (List ℕ)) → IsPotential p wide table →
    (bits : List Bool) (t s : ℕ) → s < 16 → IsContinuation p t bits → entry table t s ≤ cost_from p wide t s bits
unfolding cost_from over_branch
entry_below p wide table pot [] t s small c =
    let at_end : t ≡ p.steps = omega (arith, c.to_the_end) in
    let is_zero : entry table t s ≡ 0 = ap (λ u. entry table u s) at_end ∙ pot.end s small in
    omega arith
entry_below p wide table pot (b ∷ bits) t s small c =
    let inside : t < p.steps = omega (arith, c.to_the_end) in
    let edge : entry table t s ≤ step_cost p wide t s b + entry table (t + 1) (next_state s b) = pot.edge t s b inside small (first_allowed p t b bits c) in
    let rest : entry table (t + 1) (next_state s b) ≤ cost_from p wide (t + 1) (next_state s b) bits = entry_below p wide table pot bits (t + 1) (next_state s b) (next_small s b small) (behind_first p t b bits c) in
    omega arith

-- each entry is the cost of some continuation
pub entry_reached : (p : CodePlan) (wide : List ℤ) (table : List (List ℕ)) → IsPotential p wide table → IsAttained p wide table →
    (n t s : ℕ) → t + n ≡ p.steps → s < 16 → (bits : List Bool) × IsContinuation p t bits × (cost_from p wide t s bits ≡ entry table t s)
unfolding cost_from over_branch
entry_reached p wide table pot att zero t s long small =
    let at_end : t ≡ p.steps = omega arith in
    let is_zero : entry table t s ≡ 0 = ap (λ u. entry table u s) at_end ∙ pot.end s small in
    ([], record { to_the_end = omega arith; zeros = λ k h. refl }, sym is_zero)
entry_reached p wide table pot att (suc n) t s long small =
    let found : (b : Bool) × IsAllowed p t b × (entry table t s ≡ step_cost p wide t s b + entry table (t + 1) (next_state s b)) = att.branch t s (omega arith) small in
    let b : Bool = found.0 in
    let rest : (bits : List Bool) × IsContinuation p (t + 1) bits × (cost_from p wide (t + 1) (next_state s b) bits ≡ entry table (t + 1) (next_state s b)) =
    entry_reached p wide table pot att n (t + 1) (next_state s b) (omega arith) (next_small s b small) in
    (b ∷ rest.0, in_front p t b rest.0 (omega arith) found.1 rest.1, cc)

-- so the entries are the costs to go
pub entry_is_cost_to_go : (p : CodePlan) (wide : List ℤ) (table : List (List ℕ)) → IsPotential p wide table → IsAttained p wide table →
    (t s : ℕ) → t ≤ p.steps → s < 16 → IsCostToGo p wide t s (entry table t s)
entry_is_cost_to_go p wide table pot att t s within small = record {
  reached = entry_reached p wide table pot att (p.steps - t) t s (omega arith) small;
  least = λ bits c. entry_below p wide table pot bits t s small c;
}
