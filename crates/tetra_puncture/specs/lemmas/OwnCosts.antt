-- The costs to go meet the rules beside the first-least message.
use Prim.Native.Nat.{zero, suc}
use Rattle.std.proofs.Common.{◌≡◌, ℕ, ◌+◌, ◌-◌, ◌<◌, ◌≤◌, inl, inr, Bool, true, false, not, eqb, List, [], ◌∷◌, ◌++◌, ℤ, arith, refl, sym, ◌∙◌, subst}
use Rattle.std.proofs.lemmas.Bool.{cases_lt}
use Rattle.tetra_bits.specs.Readings.{entry}
use Rattle.tetra_mother.specs.Mother.{next_state}
use Rattle.tetra_mother.specs.lemmas.States.{next_small}
use Rattle.tetra_puncture.specs.Certified.{Fits, CostsToGoAreAccepted}
use Rattle.tetra_puncture.specs.Decoding.{IsBackward, IsTraced, least_branch}
use Rattle.tetra_puncture.specs.Plan.{CodePlan, IsMessage}
use Rattle.tetra_puncture.specs.Rules.{IsAccepted}
use Rattle.tetra_puncture.specs.Spread.{spread_values}
use Rattle.tetra_puncture.specs.ToGo.{potentials_of}
use Rattle.tetra_puncture.specs.Trellis.{step_cost, cost_from, IsAllowed, IsContinuation, IsCostToGo, over_branch}
use Rattle.tetra_puncture.specs.lemmas.Certificates.{certified}
use Rattle.tetra_puncture.specs.lemmas.Rows.{least_both, least_tail, traced_accepted, TracedTo, trace_start, trace_step}
use Rattle.tetra_puncture.specs.lemmas.Shapes.{entry_of_potentials}
use Rattle.tetra_puncture.specs.lemmas.Steps.{behind_first, first_allowed, in_front}
use Rattle.tetra_puncture.specs.lemmas.ToGo.{cost_to_go_is_found}

module _ (p : CodePlan) (r : List ℤ) where
  unfoldable wide : List ℤ
  wide = spread_values p r

  unfoldable table : List (List ℕ)
  table = potentials_of p r

  entry_is : (t s : ℕ) → t ≤ p.steps → s < 16 → IsCostToGo p wide t s (entry table t s)
  unfolding wide table
  entry_is t s within small =
      subst (IsCostToGo p (spread_values p r) t s) (sym (entry_of_potentials p r t s within small)) (cost_to_go_is_found p (spread_values p r) t s within)

  end : (s : ℕ) → s < 16 → entry table p.steps s ≡ 0
  unfolding cost_from
  end s small =
      let none : entry table p.steps s ≤ 0 = (entry_is p.steps s (omega arith) small).least [] (record { to_the_end = omega arith; zeros = λ k h. refl }) in
      omega arith

  edge : (t s : ℕ) (b : Bool) → t < p.steps → s < 16 → IsAllowed p t b → entry table t s ≤ over_branch p wide table t s b
  unfolding cost_from over_branch
  edge t s b inside small allowed =
      let rest = (entry_is (t + 1) (next_state s b) (omega arith) (next_small s b small)).reached in
      let least : entry table t s ≤ step_cost p wide t s b + cost_from p wide (t + 1) (next_state s b) rest.0 =
      (entry_is t s (omega arith) small).least (b ∷ rest.0) (in_front p t b rest.0 inside allowed rest.1) in
      omega (arith, rest.2)

  -- a first bit of a cheapest continuation
  branch_by : (t s : ℕ) → t < p.steps → s < 16 → (bits : List Bool) → IsContinuation p t bits → cost_from p wide t s bits ≡ entry table t s
      → (b : Bool) × IsAllowed p t b × (entry table t s ≡ over_branch p wide table t s b)
  unfolding cost_from over_branch
  branch_by t s inside small [] c e = absurd (omega (arith, c.to_the_end))
  branch_by t s inside small (b ∷ bits) c e =
      let allowed : IsAllowed p t b = first_allowed p t b bits c in
      let least : entry table (t + 1) (next_state s b) ≤ cost_from p wide (t + 1) (next_state s b) bits =
      (entry_is (t + 1) (next_state s b) (omega arith) (next_small s b small)).least bits (behind_first p t b bits c) in
      let above : entry table t s ≤ step_cost p wide t s b + entry table (t + 1) (next_state s b) = edge t s b inside small allowed in
      (b, allowed, omega arith)

  branch : (t s : ℕ) → t < p.steps → s < 16 → (b : Bool) × IsAllowed p t b × (entry table t s ≡ over_branch p wide table t s b)
  branch t s inside small =
      let go = (entry_is t s (omega arith) small).reached in
      branch_by t s inside small go.0 go.1 go.2

  not_late : (t : ℕ) (b : Bool) → p.steps ≤ t + 4 → IsAllowed p t b → b ≡ false
  unfolding IsAllowed
  not_late t true late allowed = let inside : t + 4 < p.steps = allowed refl in absurd (omega arith)
  not_late t false late allowed = refl

  least_of : (t s : ℕ) (b : Bool) → t + 4 < p.steps → s < 16 → entry table t s ≡ over_branch p wide table t s b → entry table t s ≡ least_branch p wide table t s
  unfolding IsAllowed
  least_of t s true inside small e =
      omega (arith, least_both p wide table t s inside, edge t s false (omega arith) small (λ h. absurd (cc)))
  least_of t s false inside small e =
      omega (arith, least_both p wide table t s inside, edge t s true (omega arith) small (λ h. inside))

  before : (t s : ℕ) → t < p.steps → s < 16 → entry table t s ≡ least_branch p wide table t s
  before t s inside small =
      let way = branch t s inside small in
      elim (cases_lt (t + 4) p.steps) [
        | inl early ↦ least_of t s way.0 early small way.2
        | inr late ↦
            let zero_bit : way.0 ≡ false = not_late t way.0 late way.1 in
            subst (λ b. entry table t s ≡ over_branch p wide table t s b) zero_bit way.2 ∙ sym (least_tail p wide table t s late)
      ]

  backward : IsBackward p wide table
  backward = record { end = end; before = before }

  -- the bit that the costs to go choose
  choice : ℕ → ℕ → Bool
  choice t s = not (eqb (entry table t s) (over_branch p wide table t s false))

  -- the bits before step t of the message that is traced in the costs to go
  traced : (t : ℕ) → (m : List Bool) × (s : ℕ) × TracedTo choice m s t
  unfolding choice
  traced zero = ([], 0, trace_start choice)
  traced (suc t) =
      let so_far = traced t in
      let bit : Bool = not (eqb (entry table t so_far.1) (over_branch p wide table t so_far.1 false)) in
      let next : t + 1 ≡ suc t = omega arith in
      (so_far.0 ++ bit ∷ [], next_state so_far.1 bit, subst (TracedTo choice (so_far.0 ++ bit ∷ []) (next_state so_far.1 bit)) next (trace_step choice so_far.0 so_far.1 t bit so_far.2 refl))

pub costs_to_go_are_accepted : CostsToGoAreAccepted
unfolding wide table choice IsTraced
costs_to_go_are_accepted p r sizes rise lie values =
    let found = traced p r (p.steps - 4) in
    let m : List Bool = found.0 in
    let is : IsMessage p m = omega (arith, found.2.long, sizes.few_steps) in
    let ok : IsAccepted p (spread_values p r) m (potentials_of p r) = traced_accepted p (spread_values p r) (potentials_of p r) (backward p r) m is found.2.traced in
    let fits : Fits p r m = record { sizes = sizes; rise = rise; lie = lie; message = is; values = values } in
    subst (λ m. IsAccepted p (spread_values p r) m (potentials_of p r)) (certified p r m (potentials_of p r) fits ok).is_best ok
