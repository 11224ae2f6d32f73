-- From the rows of a step to its rules.
use Rattle.std.proofs.Common.{◌≡◌, ℕ, ◌+◌, ◌<◌, ◌≤◌, Bool, true, false, List, [], ℤ, get_or, arith, refl, sym, ap, subst, ◌∙◌}
use Rattle.tetra_bits.specs.Readings.{entry}
use Rattle.tetra_mother.specs.Mother.{next_state}
use Rattle.tetra_puncture.specs.Plan.{CodePlan}
use Rattle.tetra_puncture.specs.Rules.{Holds}
use Rattle.tetra_puncture.specs.Trellis.{step_cost, over_branch, bit_taken, state_passed}
use Rattle.tetra_puncture.specs.declared.rule.Rule.{Rule}
use Rattle.tetra_puncture.specs.declared.rule.Rule.TheVariants.{End, Edge0, Edge1, Path, Tie}

-- what was found of the rows of step t
pub record StepFound (p : CodePlan) (m : List Bool) (t path : ℕ) (row after zero one : List ℕ) : Type 0 where
  pub edge_zero : (s : ℕ) → s < 16 → get_or row s 0 ≤ get_or zero s 0 + get_or after (next_state s false) 0
  pub edge_one : t + 4 < p.steps → (s : ℕ) → s < 16 → get_or row s 0 ≤ get_or one s 0 + get_or after (next_state s true) 0
  pub path_zero : bit_taken m t ≡ false → get_or row path 0 ≡ get_or zero path 0 + get_or after (next_state path false) 0
  pub path_one : bit_taken m t ≡ true → get_or row path 0 ≡ get_or one path 0 + get_or after (next_state path true) 0
  pub tie : bit_taken m t ≡ true → get_or row path 0 < get_or zero path 0 + get_or after (next_state path false) 0

-- so the rules hold
pub step_rules : (p : CodePlan) (wide : List ℤ) (m : List Bool) (table : List (List ℕ)) (t path : ℕ) (row after zero one : List ℕ) →
    t < p.steps → path < 16 → path ≡ state_passed m t → row ≡ get_or table t [] → after ≡ get_or table (t + 1) [] →
    ((s : ℕ) → s < 16 → get_or zero s 0 ≡ step_cost p wide t s false) →
    ((s : ℕ) → s < 16 → get_or one s 0 ≡ step_cost p wide t s true) → StepFound p m t path row after zero one →
    (s : ℕ) (rule : Rule) → s < 16 → Holds p wide m table t s rule
unfolding Holds over_branch entry
step_rules p wide m table t path row after zero one inside small passed er ea cz co f s rule lt = at rule
  where
    here : (s : ℕ) → entry table t s ≡ get_or row s 0
    here s = ap (λ l. get_or l s 0) (sym er)

    over_zero : (s : ℕ) → s < 16 → over_branch p wide table t s false ≡ get_or zero s 0 + get_or after (next_state s false) 0
    over_zero s lt = let e : get_or (get_or table (t + 1) []) (next_state s false) 0 ≡ get_or after (next_state s false) 0 = ap (λ l. get_or l (next_state s false) 0) (sym ea) in omega (arith, cz s lt)

    over_one : (s : ℕ) → s < 16 → over_branch p wide table t s true ≡ get_or one s 0 + get_or after (next_state s true) 0
    over_one s lt = let e : get_or (get_or table (t + 1) []) (next_state s true) 0 ≡ get_or after (next_state s true) 0 = ap (λ l. get_or l (next_state s true) 0) (sym ea) in omega (arith, co s lt)

    on_path : (b : Bool) → bit_taken m t ≡ b → entry table t path ≡ over_branch p wide table t path b
    on_path false e = here path ∙ (f.path_zero e ∙ sym (over_zero path small))
    on_path true e = here path ∙ (f.path_one e ∙ sym (over_one path small))

    at : (rule : Rule) → Holds p wide m table t s rule
    at End = λ e. absurd (omega arith)
    at Edge0 = λ _. omega (arith, here s, over_zero s lt, f.edge_zero s lt)
    at Edge1 = λ late. omega (arith, here s, over_one s lt, f.edge_one late s lt)
    at Path = λ _ e. let same : path ≡ s = passed ∙ sym e in subst (λ (u : ℕ). entry table t u ≡ over_branch p wide table t u (bit_taken m t)) same (on_path (bit_taken m t) refl)
    at Tie = λ _ e one. let same : path ≡ s = passed ∙ sym e in subst (λ (u : ℕ). entry table t u < over_branch p wide table t u false) same (omega (arith, here path, over_zero path small, f.tie one))
