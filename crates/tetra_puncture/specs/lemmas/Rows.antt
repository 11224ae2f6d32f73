-- Rows made one from the next hold the costs to go, and the message that is traced in them meets the five rules.
use Rattle.std.proofs.Common.{◌≡◌, ◌≢◌, ℕ, ◌+◌, ◌-◌, ◌*◌, ◌<◌, ◌≤◌, inl, inr, Bool, true, false, not, eqb, ltb, min, List, [], ◌∷◌, ◌++◌, length, length-append, get_or, set, ℤ, arith, refl, sym, ◌∙◌, ap, subst, get_or-set_other, get_or-set_same}
use Rattle.std.proofs.Math.ListN.{length-set}
use Rattle.std.proofs.lemmas.Bool.{cases_lt}
use Rattle.std.proofs.lemmas.Bool.Decides.{nat_tests}
use Rattle.std.proofs.lemmas.Grind.{common_steps}
use Rattle.tetra_bits.specs.Order.{bit_at}
use Rattle.tetra_bits.specs.Readings.{entry}
use Rattle.tetra_bits.specs.Soft.{AllSoft}
use Rattle.tetra_mother.specs.Mother.{next_state}
use Rattle.tetra_mother.specs.lemmas.States.{next_small}
use Rattle.tetra_puncture.specs.Plan.{CodePlan, IsMessage}
use Rattle.tetra_puncture.specs.Decoding.{least_branch, IsBackward, BackFrom, IsTraced}
use Rattle.tetra_puncture.specs.Rules.{Holds, IsAccepted}
use Rattle.tetra_puncture.specs.Trellis.{step_cost, IsAllowed, AllCostsToGo, over_branch, bit_taken, state_passed}
use Rattle.tetra_puncture.specs.declared.rule.Rule.{Rule}
use Rattle.tetra_puncture.specs.declared.rule.Rule.TheVariants.{End, Edge0, Edge1, Path, Tie}
use Rattle.tetra_puncture.specs.lemmas.Bounds.{step_cost_fits}
use Rattle.tetra_puncture.specs.lemmas.Potentials.{IsPotential, entry_is_cost_to_go}
use Rattle.tetra_puncture.specs.lemmas.Steps.{bit_taken_is, bit_taken_tail, state_passed_first, state_passed_more, state_passed_same}

-- the ways that are allowed before the last four steps, and at them
pub least_both : (p : CodePlan) (wide : List ℤ) (table : List (List ℕ)) (t s : ℕ) → t + 4 < p.steps →
    least_branch p wide table t s ≡ min (over_branch p wide table t s false) (over_branch p wide table t s true)
unfolding least_branch
least_both p wide table t s h = let test : ltb (t + 4) p.steps ≡ true = grind (arith, nat_tests) in rw test refl

pub least_tail : (p : CodePlan) (wide : List ℤ) (table : List (List ℕ)) (t s : ℕ) → p.steps ≤ t + 4 → least_branch p wide table t s ≡ over_branch p wide table t s false
unfolding least_branch
least_tail p wide table t s h = let test : ltb (t + 4) p.steps ≡ false = grind (arith, nat_tests) in rw test refl

module _ (p : CodePlan) (wide : List ℤ) (table : List (List ℕ)) (back : IsBackward p wide table) where
  entry_both : (t s : ℕ) → t + 4 < p.steps → s < 16 → entry table t s ≡ min (over_branch p wide table t s false) (over_branch p wide table t s true)
  entry_both t s inside small = back.before t s (omega arith) small ∙ least_both p wide table t s inside

  entry_tail : (t s : ℕ) → t < p.steps → p.steps ≤ t + 4 → s < 16 → entry table t s ≡ over_branch p wide table t s false
  entry_tail t s inside late small = back.before t s inside small ∙ least_tail p wide table t s late

  edge : (t s : ℕ) (b : Bool) → t < p.steps → s < 16 → IsAllowed p t b → entry table t s ≤ over_branch p wide table t s b
  unfolding IsAllowed
  edge t s true inside small allowed = let lt : t + 4 < p.steps = allowed refl in omega (arith, entry_both t s lt small)
  edge t s false inside small allowed = elim (cases_lt (t + 4) p.steps) [
    | inl h ↦ omega (arith, entry_both t s h small)
    | inr h ↦ omega (arith, entry_tail t s inside h small)
  ]

  branch : (t s : ℕ) → t < p.steps → s < 16 → (b : Bool) × IsAllowed p t b × (entry table t s ≡ over_branch p wide table t s b)
  unfolding IsAllowed
  branch t s inside small = elim (cases_lt (t + 4) p.steps) [
    | inl h ↦ elim (cases_lt (over_branch p wide table t s true) (over_branch p wide table t s false)) [
      | inl lt ↦ (true, (λ e. h), omega (arith, entry_both t s h small))
      | inr le ↦ (false, (λ e. absurd (cc)), omega (arith, entry_both t s h small))
    ]
    | inr h ↦ (false, (λ e. absurd (cc)), entry_tail t s inside h small)
  ]

  potential : IsPotential p wide table
  potential = record { end = back.end; edge = edge }

  pub backward_is_cost_to_go : AllCostsToGo p wide table
  unfolding AllCostsToGo
  backward_is_cost_to_go t s within small = entry_is_cost_to_go p wide table potential (record { branch = branch }) t s within small

  -- a traced message meets the five rules
  module _ (m : List Bool) (is : IsMessage p m) (traced : IsTraced p wide table m) where
    reaches : (t s : ℕ) (b : Bool) → t < length m → s < 16 → b ≡ not (eqb (entry table t s) (over_branch p wide table t s false)) → entry table t s ≡ over_branch p wide table t s b
    reaches t s false h small e = grind (arith, nat_tests)
    reaches t s true h small e =
        let ne : entry table t s ≢ over_branch p wide table t s false = grind (arith, nat_tests) in
        omega (arith, entry_both t s (omega arith) small)

    chosen : (t s : ℕ) → t < length m → s ≡ state_passed m t → bit_taken m t ≡ not (eqb (entry table t s) (over_branch p wide table t s false))
    unfolding IsTraced
    chosen t s h here =
        let P : ℕ → Type 0 = λ u. bit_taken m t ≡ not (eqb (entry table t u) (over_branch p wide table t u false)) in
        subst P (sym here) (bit_taken_is m t ∙ traced t h)

    path : (t s : ℕ) → t < p.steps → s < 16 → s ≡ state_passed m t → entry table t s ≡ over_branch p wide table t s (bit_taken m t)
    path t s inside small here = elim (cases_lt t (length m)) [
      | inl h ↦ reaches t s (bit_taken m t) h small (chosen t s h here)
      | inr h ↦ entry_tail t s inside (omega arith) small ∙ ap (over_branch p wide table t s) (sym (bit_taken_tail m t h))
    ]

    tie : (t s : ℕ) → t < p.steps → s < 16 → s ≡ state_passed m t → bit_taken m t ≡ true → entry table t s < over_branch p wide table t s false
    tie t s inside small here one = elim (cases_lt t (length m)) [
      | inl h ↦
          let e : bit_taken m t ≡ not (eqb (entry table t s) (over_branch p wide table t s false)) = chosen t s h here in
          let ne : entry table t s ≢ over_branch p wide table t s false = grind (arith, nat_tests) in
          omega (arith, entry_both t s (omega arith) small)
      | inr h ↦ let e : bit_taken m t ≡ false = bit_taken_tail m t h in absurd (cc)
    ]

    rule_holds : (t s : ℕ) (rule : Rule) → t ≤ p.steps → s < 16 → Holds p wide m table t s rule
    unfolding Holds IsAllowed
    rule_holds t s End within small = λ at_end. ap (λ u. entry table u s) at_end ∙ back.end s small
    rule_holds t s Edge0 within small = λ inside. edge t s false inside small (λ e. absurd (cc))
    rule_holds t s Edge1 within small = λ inside. edge t s true (omega arith) small (λ e. inside)
    rule_holds t s Path within small = λ inside here. path t s inside small here
    rule_holds t s Tie within small = λ inside here one. tie t s inside small here one

    pub traced_accepted : IsAccepted p wide m table
    unfolding IsAccepted
    traced_accepted = rule_holds

pub entry_set_other : (rows : List (List ℕ)) (t u s : ℕ) (new : List ℕ) → u ≢ t → entry (set rows t new) u s ≡ entry rows u s
unfolding entry
entry_set_other rows t u s new ne = let e : get_or (set rows t new) u [] ≡ get_or rows u [] = rw get_or-set_other refl in ap (λ l. get_or l s 0) e

pub entry_set_same : (rows : List (List ℕ)) (t s : ℕ) (new : List ℕ) → t < length rows → entry (set rows t new) t s ≡ get_or new s 0
unfolding entry
entry_set_same rows t s new lt = let e : get_or (set rows t new) t [] ≡ new = rw get_or-set_same refl in ap (λ l. get_or l s 0) e

-- what a branch leads to lies in the next row
pub over_branch_set : (p : CodePlan) (wide : List ℤ) (rows : List (List ℕ)) (u t s : ℕ) (b : Bool) (new : List ℕ) → t + 1 ≢ u → over_branch p wide (set rows u new) t s b ≡ over_branch p wide rows t s b
unfolding over_branch
over_branch_set p wide rows u t s b new ne = ap (λ n. step_cost p wide t s b + n) (entry_set_other rows u (t + 1) (next_state s b) new ne)

pub least_branch_set : (p : CodePlan) (wide : List ℤ) (rows : List (List ℕ)) (u t s : ℕ) (new : List ℕ) → t + 1 ≢ u → least_branch p wide (set rows u new) t s ≡ least_branch p wide rows t s
unfolding least_branch
least_branch_set p wide rows u t s new ne =
    let a : over_branch p wide (set rows u new) t s false ≡ over_branch p wide rows t s false = over_branch_set p wide rows u t s false new ne in
    let b : over_branch p wide (set rows u new) t s true ≡ over_branch p wide rows t s true = over_branch_set p wide rows u t s true new ne in
    rw (a, b) refl

pub back_start : (p : CodePlan) (wide : List ℤ) (rows : List (List ℕ)) → length rows ≡ p.steps + 1 → ((s : ℕ) → s < 16 → entry rows p.steps s ≡ 0) → BackFrom p wide rows p.steps
back_start p wide rows long zeros = record {
  long = long;
  end = zeros;
  before = λ u s from inside h. absurd (omega arith);
  small = λ u s from within h. let e : u ≡ p.steps = omega arith in rw e (omega (arith, zeros s h));
}

-- one more row, whose entries are the least branches over the rows so far
module _ (p : CodePlan) (wide : List ℤ) (rows : List (List ℕ)) (new : List ℕ) (t u : ℕ) (few : p.outs ≤ 4) (soft : AllSoft wide)
    (next : t ≡ u + 1) (within : t ≤ p.steps) (done : BackFrom p wide rows t) (made : (s : ℕ) → s < 16 → get_or new s 0 ≡ least_branch p wide rows u s) where
  new_entry : (s : ℕ) → s < 16 → entry (set rows u new) u s ≡ least_branch p wide rows u s
  new_entry s h = let long : length rows ≡ p.steps + 1 = done.long in entry_set_same rows u s new (omega arith) ∙ made s h

  new_before : (v s : ℕ) → u ≤ v → v < p.steps → s < 16 → entry (set rows u new) v s ≡ least_branch p wide (set rows u new) v s
  new_before v s from inside h = elim (cases_lt u v) [
    | inl lt ↦
        entry_set_other rows u v s new (omega arith) ∙ done.before v s (omega arith) inside h ∙ sym (least_branch_set p wide rows u v s new (omega arith))
    | inr le ↦
        let e : v ≡ u = omega arith in
        rw e (new_entry s h ∙ sym (least_branch_set p wide rows u u s new (omega arith)))
  ]

  branch_small : (s : ℕ) (b : Bool) → s < 16 → over_branch p wide rows u s b ≤ 131072 * (p.steps - u)
  unfolding over_branch
  branch_small s b h =
      let step : step_cost p wide u s b ≤ 131072 = step_cost_fits p wide u s b few soft in
      let rest : entry rows t (next_state s b) ≤ 131072 * (p.steps - t) = done.small t (next_state s b) (omega arith) within (next_small s b h) in
      let here : entry rows (u + 1) (next_state s b) ≡ entry rows t (next_state s b) = ap (λ v. entry rows v (next_state s b)) (sym next) in
      omega arith

  least_small : (s : ℕ) → s < 16 → least_branch p wide rows u s ≤ 131072 * (p.steps - u)
  least_small s h = elim (cases_lt (u + 4) p.steps) [
    | inl lt ↦ omega (arith, least_both p wide rows u s lt, branch_small s false h)
    | inr le ↦ omega (arith, least_tail p wide rows u s le, branch_small s false h)
  ]

  new_small : (v s : ℕ) → u ≤ v → v ≤ p.steps → s < 16 → entry (set rows u new) v s ≤ 131072 * (p.steps - v)
  new_small v s from inside h = elim (cases_lt u v) [
    | inl lt ↦ omega (arith, entry_set_other rows u v s new (omega arith), done.small v s (omega arith) inside h)
    | inr le ↦ let e : v ≡ u = omega arith in rw e (omega (arith, new_entry s h, least_small s h))
  ]

  pub back_step : BackFrom p wide (set rows u new) u
  back_step = record {
    long = length-set rows u new ∙ done.long;
    end = λ s h. entry_set_other rows u p.steps s new (omega arith) ∙ done.end s h;
    before = new_before;
    small = new_small;
  }

-- the bits before step t, which lead to this state, each chosen by its step and the state before it
pub record TracedTo (choice : ℕ → ℕ → Bool) (m : List Bool) (state t : ℕ) : Type 0 where
  pub long : length m ≡ t
  pub state_is : state ≡ state_passed m t
  pub small : state < 16
  pub traced : (k : ℕ) → k < length m → bit_at m k ≡ choice k (state_passed m k)

pub trace_start : (choice : ℕ → ℕ → Bool) → TracedTo choice [] 0 0
trace_start choice = record { long = refl; state_is = sym (state_passed_first []); small = omega arith; traced = λ t h. absurd (omega arith) }

bit_before : (m : List Bool) (b : Bool) (k : ℕ) → k < length m → bit_at (m ++ b ∷ []) k ≡ bit_at m k
bit_before m b k h = grind (arith, common_steps)

bit_last : (m : List Bool) (b : Bool) → bit_at (m ++ b ∷ []) (length m) ≡ b
bit_last m b = grind (arith, common_steps)

-- one more bit
module _ (choice : ℕ → ℕ → Bool) (m : List Bool) (s t : ℕ) (b : Bool) (done : TracedTo choice m s t) (chosen : b ≡ choice t s) where
  more : List Bool
  more = m ++ b ∷ []

  last : bit_at more t ≡ b
  unfolding more
  last = ap (bit_at more) (sym done.long) ∙ bit_last m b

  same_state : (k : ℕ) → k ≤ t → state_passed more k ≡ state_passed m k
  unfolding more
  same_state k h = state_passed_same more m k (λ j below. bit_before m b j (omega (arith, done.long)))

  state_next : next_state s b ≡ state_passed more (t + 1)
  state_next =
      let here : state_passed more t ≡ s = same_state t (omega arith) ∙ sym done.state_is in
      let bit : bit_taken more t ≡ b = bit_taken_is more t ∙ last in
      sym (state_passed_more more t ∙ rw (here, bit) refl)

  traced_more : (k : ℕ) → k < length more → bit_at more k ≡ choice k (state_passed more k)
  unfolding more
  traced_more k h =
      let long : length more ≡ length m + 1 = length-append m (b ∷ []) in
      let before : length m ≡ t = done.long in
      elim (cases_lt k t) [
        | inl lt ↦
            let P : ℕ → Type 0 = λ u. bit_at more k ≡ choice k u in
            subst P (sym (same_state k (omega arith))) (bit_before m b k (omega arith) ∙ done.traced k (omega arith))
        | inr ge ↦
            let e : k ≡ t = omega arith in
            let here : state_passed more t ≡ s = same_state t (omega arith) ∙ sym done.state_is in
            let P : ℕ → Type 0 = λ u. bit_at more t ≡ choice t u in
            let Q : ℕ → Type 0 = λ u. bit_at more u ≡ choice u (state_passed more u) in
            subst Q (sym e) (subst P (sym here) (last ∙ chosen))
      ]

  pub trace_step : TracedTo choice (m ++ b ∷ []) (next_state s b) (t + 1)
  unfolding more
  trace_step = record {
    long = length-append m (b ∷ []) ∙ (let long : length m ≡ t = done.long in omega arith);
    state_is = state_next;
    small = next_small s b done.small;
    traced = traced_more;
  }
