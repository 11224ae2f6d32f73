-- One step backwards, by lanes.
use Rattle.std.proofs.Common.{◌≡◌, ℕ, ◌+◌, ◌*◌, ◌/◌, ◌%◌, ◌^◌, ◌<◌, ◌≤◌, Bool, true, false, not, cond, eqb, ltb, min, List, [], get_or, ℤ, arith, refl, ap, subst, ◌∙◌, inl, inr}
use Rattle.std.proofs.lemmas.Bool.{cases_lt}
use Rattle.std.proofs.lemmas.Bool.Decides.{nat_tests}
use Rattle.tetra_bits.specs.Readings.{entry}
use Rattle.tetra_bits.specs.Soft.{AllSoft}
use Rattle.tetra_mother.specs.lemmas.States.{next_small}
use Rattle.tetra_mother.specs.Mother.{next_state, number}
use Rattle.tetra_puncture.specs.Butterflies.{lane_of, mark_at, way_over, least_over, wrapped_way, IsLeastRow, IsZeroRow, AreMarks}
use Rattle.tetra_puncture.specs.Plan.{CodePlan}
use Rattle.tetra_puncture.specs.Decoding.{least_branch}
use Rattle.tetra_puncture.specs.Trellis.{step_cost, over_branch}
use Rattle.tetra_puncture.specs.lemmas.Bounds.{step_cost_fits}

pub set_flag : (n : ℕ) → (n ≡ 0 → ⊥) → not (eqb n 0) ≡ true
set_flag n ne = grind (arith, nat_tests)

-- what holds of the even states and of the odd ones
pub halves : (P : ℕ → Type 0) → ((i : ℕ) → i < 8 → P (2 * i)) → ((i : ℕ) → i < 8 → P (2 * i + 1)) → (s : ℕ) → s < 16 → P s
halves P even odd s h = elim (cases_lt (2 * (s / 2)) s) [
  | inl lt ↦ let e : 2 * (s / 2) + 1 ≡ s = omega arith in subst P e (odd (s / 2) (omega arith))
  | inr ge ↦ let e : 2 * (s / 2) ≡ s = omega arith in subst P e (even (s / 2) (omega arith))
]

module _ (p : CodePlan) (wide : List ℤ) (t : ℕ) (after : List ℕ) where
  pub even_way : (costs behind sums : List ℕ) (b : Bool) (place : ℕ → ℕ) → ((i : ℕ) → i < 8 → place i ≡ i + 8 * number b) →
      ((i : ℕ) → i < 8 → get_or sums i 0 ≡ (get_or costs i 0 + get_or behind i 0) % 4294967296) →
      ((i : ℕ) → i < 8 → get_or costs i 0 ≡ step_cost p wide t (2 * i) b) →
      ((i : ℕ) → i < 8 → get_or behind i 0 ≡ get_or after (place i) 0) →
      (i : ℕ) → i < 8 → get_or sums i 0 ≡ wrapped_way p wide t after (2 * i) b
  unfolding wrapped_way way_over next_state
  even_way costs behind sums b place at made are rest i h =
      let k : place i ≡ 2 * i / 2 + 8 * number b = at i h ∙ omega arith in
      made i h ∙ rw (are i h, rest i h, k) refl

  pub odd_way : (costs behind sums : List ℕ) (b : Bool) (place : ℕ → ℕ) → ((i : ℕ) → i < 8 → place i ≡ i + 8 * number b) →
      ((i : ℕ) → i < 8 → get_or sums i 0 ≡ (get_or costs i 0 + get_or behind i 0) % 4294967296) →
      ((i : ℕ) → i < 8 → get_or costs i 0 ≡ step_cost p wide t (2 * i + 1) b) →
      ((i : ℕ) → i < 8 → get_or behind i 0 ≡ get_or after (place i) 0) →
      (i : ℕ) → i < 8 → get_or sums i 0 ≡ wrapped_way p wide t after (2 * i + 1) b
  unfolding wrapped_way way_over next_state
  odd_way costs behind sums b place at made are rest i h =
      let k : place i ≡ (2 * i + 1) / 2 + 8 * number b = at i h ∙ omega arith in
      made i h ∙ rw (are i h, rest i h, k) refl

  -- the lesser ways of half of the states
  pub least_half : (zero_ways one_ways least row : List ℕ) (state : ℕ → ℕ) →
      ((i : ℕ) → i < 8 → get_or least i 0 ≡ min (get_or zero_ways i 0) (get_or one_ways i 0)) →
      ((i : ℕ) → i < 8 → get_or row (state i) 0 ≡ get_or least i 0) →
      ((i : ℕ) → i < 8 → get_or zero_ways i 0 ≡ wrapped_way p wide t after (state i) false) →
      ((i : ℕ) → i < 8 → get_or one_ways i 0 ≡ wrapped_way p wide t after (state i) true) →
      (i : ℕ) → i < 8 → get_or row (state i) 0 ≡ min (wrapped_way p wide t after (state i) false) (wrapped_way p wide t after (state i) true)
  least_half zero_ways one_ways least row state lesser woven zero_is one_is i h = woven i h ∙ (lesser i h ∙ rw (zero_is i h, one_is i h) refl)

  -- the marks of half of the states
  pub marks_half : (zero_ways least row joined_zero joined_least : List ℕ) (marks : ℕ) (place state : ℕ → ℕ) →
      ((i : ℕ) → i < 8 → lane_of (state i) ≡ place i) →
      ((i : ℕ) → i < 8 → marks / 2 ^ (place i) % 2 ≡ cond (eqb (get_or joined_least (place i) 0) (get_or joined_zero (place i) 0)) 1 0) →
      ((i : ℕ) → i < 8 → get_or joined_least (place i) 0 ≡ get_or least i 0) →
      ((i : ℕ) → i < 8 → get_or joined_zero (place i) 0 ≡ get_or zero_ways i 0) →
      ((i : ℕ) → i < 8 → get_or row (state i) 0 ≡ get_or least i 0) →
      ((i : ℕ) → i < 8 → get_or zero_ways i 0 ≡ wrapped_way p wide t after (state i) false) →
      (i : ℕ) → i < 8 → mark_at marks (state i) ≡ cond (eqb (get_or row (state i) 0) (wrapped_way p wide t after (state i) false)) 1 0
  unfolding mark_at
  marks_half zero_ways least row joined_zero joined_least marks place state lanes set jl jz woven zero_is i h =
      ap (λ k. marks / 2 ^ k % 2) (lanes i h) ∙ (set i h ∙ rw (jl i h, jz i h, zero_is i h, woven i h) refl)

pub even_lanes : (i : ℕ) → i < 8 → lane_of (2 * i) ≡ i
unfolding lane_of
even_lanes i h = omega arith

pub odd_lanes : (i : ℕ) → i < 8 → lane_of (2 * i + 1) ≡ 8 + i
unfolding lane_of
odd_lanes i h = omega arith

pub low_place : (i : ℕ) → i < 8 → i ≡ i + 8 * number false
low_place i h = omega arith

pub high_place : (i : ℕ) → i < 8 → 8 + i ≡ i + 8 * number true
high_place i h = omega arith

-- where no sum wraps
module _ (p : CodePlan) (wide : List ℤ) (t : ℕ) (after : List ℕ) (few : p.outs ≤ 4) (soft : AllSoft wide)
    (room : (s : ℕ) → s < 16 → get_or after s 0 ≤ 2147483648) where
  pub unwrapped : (s : ℕ) (b : Bool) → s < 16 → wrapped_way p wide t after s b ≡ way_over p wide t after s b
  unfolding wrapped_way way_over
  unwrapped s b h =
      let c : step_cost p wide t s b ≤ 131072 = step_cost_fits p wide t s b few soft in
      let r : get_or after (next_state s b) 0 ≤ 2147483648 = room (next_state s b) (next_small s b h) in
      omega arith

  pub least_is_exact : (row : List ℕ) → IsLeastRow p wide t after row → t + 4 < p.steps → (s : ℕ) → s < 16 → get_or row s 0 ≡ least_over p wide t after s
  unfolding IsLeastRow least_over
  least_is_exact row is inside s h =
      let test : ltb (t + 4) p.steps ≡ true = grind (arith, nat_tests) in
      rw test (is s h ∙ rw (unwrapped s false h, unwrapped s true h) refl)

  pub zero_is_exact : (row : List ℕ) → IsZeroRow p wide t after row → p.steps ≤ t + 4 → (s : ℕ) → s < 16 → get_or row s 0 ≡ least_over p wide t after s
  unfolding IsZeroRow least_over
  zero_is_exact row is late s h =
      let test : ltb (t + 4) p.steps ≡ false = grind (arith, nat_tests) in
      rw test (is s h ∙ unwrapped s false h)

  pub marks_are_exact : (row : List ℕ) (marks : ℕ) → AreMarks p wide t after row marks → (s : ℕ) → s < 16
      → mark_at marks s ≡ cond (eqb (get_or row s 0) (way_over p wide t after s false)) 1 0
  unfolding AreMarks
  marks_are_exact row marks are s h = are s h ∙ rw (unwrapped s false h) refl

-- the same of the rows of a table
pub over_is_way : (p : CodePlan) (wide : List ℤ) (table : List (List ℕ)) (t s : ℕ) (b : Bool) → over_branch p wide table t s b ≡ way_over p wide t (get_or table (t + 1) []) s b
unfolding over_branch way_over entry
over_is_way p wide table t s b = refl

pub least_is_over : (p : CodePlan) (wide : List ℤ) (table : List (List ℕ)) (t s : ℕ) → least_branch p wide table t s ≡ least_over p wide t (get_or table (t + 1) []) s
unfolding least_branch least_over over_branch way_over entry
least_is_over p wide table t s = refl
