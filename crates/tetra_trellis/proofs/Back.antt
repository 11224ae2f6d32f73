-- The row behind the last step.
use Rattle.std.proofs.Common.{◌≡◌, ℕ, ◌+◌, ◌-◌, ◌*◌, ◌<◌, ◌≤◌, inl, inr, false, cond, eqb, List, [], length, get_or, set, ℤ, arith, refl, sym, ◌∙◌, ap, get_or-set_same}
use Rattle.std.proofs.Math.ListN.{length-set}
use Rattle.std.proofs.lemmas.Bool.{cases_eq, cases_lt}
use Rattle.std.proofs.lemmas.List.{get_or_default, get_or-set_other}
use Rattle.tetra_bits.specs.Readings.{entry, HasRows}
use Rattle.tetra_puncture.specs.Butterflies.{least_over, mark_at, way_over}
use Rattle.tetra_puncture.specs.Plan.{CodePlan}
use Rattle.tetra_puncture.specs.Trellis.{over_branch}
use Rattle.tetra_puncture.specs.lemmas.Stepping.{least_is_over, over_is_way}
use Rattle.tetra_puncture.specs.Decoding.{BackFrom, least_branch}
use Rattle.tetra_puncture.specs.lemmas.Rows.{back_start}

row_same : (rows : List (List ℕ)) (t : ℕ) (new : List ℕ) → t < length rows → get_or (set rows t new) t [] ≡ new
row_same rows t new lt = rw get_or-set_same refl

-- the row behind the last step is written
pub first_row : (p : CodePlan) (wide : List ℤ) (rows after : List (List ℕ)) (new : List ℕ) (t : ℕ) → t ≡ p.steps → length rows ≡ t + 1 → after ≡ set rows t new →
    ((s : ℕ) → s < 16 → get_or new s 0 ≡ 0) → BackFrom p wide after t
unfolding entry
first_row p wide rows after new t is long made zeros =
    let same : get_or (set rows t new) t [] ≡ new = row_same rows t new (omega arith) in
    rw (made, is) (back_start p wide (set rows p.steps new) (length-set rows p.steps new ∙ omega arith)
    (λ s h. let same : get_or (set rows p.steps new) p.steps [] ≡ new = row_same rows p.steps new (omega arith) in ap (λ l. get_or l s 0) same ∙ zeros s h))

-- the row behind a step has room for its costs
pub room_behind : (p : CodePlan) (wide : List ℤ) (rows : List (List ℕ)) (row : List ℕ) (t u : ℕ) → p.steps ≤ 292 → t ≤ p.steps → t ≡ u + 1 → BackFrom p wide rows t →
    row ≡ get_or rows (u + 1) [] → (s : ℕ) → s < 16 → get_or row s 0 ≤ 2147483648
unfolding entry
room_behind p wide rows row t u few within next done is s h =
    let small : get_or (get_or rows t []) s 0 ≤ 131072 * (p.steps - t) = done.small t s (omega arith) within h in
    let there : get_or row s 0 ≡ get_or (get_or rows (u + 1) []) s 0 = ap (λ l. get_or l s 0) is in
    let here : get_or (get_or rows (u + 1) []) s 0 ≡ get_or (get_or rows t []) s 0 = ap (λ v. get_or (get_or rows v []) s 0) (sym next) in
    omega arith

-- a row by the row behind it, and by the table
pub least_made : (p : CodePlan) (wide : List ℤ) (rows : List (List ℕ)) (row new : List ℕ) (u : ℕ) → row ≡ get_or rows (u + 1) [] →
    ((s : ℕ) → s < 16 → get_or new s 0 ≡ least_over p wide u row s) → (s : ℕ) → s < 16 → get_or new s 0 ≡ least_branch p wide rows u s
least_made p wide rows row new u is made s h = made s h ∙ (ap (λ l. least_over p wide u l s) is ∙ sym (least_is_over p wide rows u s))

pub marks_made : (p : CodePlan) (wide : List ℤ) (rows : List (List ℕ)) (row new : List ℕ) (mark u : ℕ) → row ≡ get_or rows (u + 1) [] →
    ((s : ℕ) → s < 16 → mark_at mark s ≡ cond (eqb (get_or new s 0) (way_over p wide u row s false)) 1 0) →
    (s : ℕ) → s < 16 → mark_at mark s ≡ cond (eqb (get_or new s 0) (over_branch p wide rows u s false)) 1 0
marks_made p wide rows row new mark u is made s h =
    let e : way_over p wide u row s false ≡ over_branch p wide rows u s false = ap (λ l. way_over p wide u l s false) is ∙ sym (over_is_way p wide rows u s false) in
    made s h ∙ ap (λ n. cond (eqb (get_or new s 0) n) 1 0) e

above : (v u t : ℕ) → u ≤ v → t ≡ u + 1 → (v ≡ u → ⊥) → t ≤ v
above v u t low next other = elim (cases_lt u v) [
  | inl less ↦ omega arith
  | inr more ↦ absurd (other (omega arith))
]

-- the rows from t on have an entry for each state
abbrev pub SixteenFrom : List (List ℕ) → ℕ → Type 0
SixteenFrom rows t = (u : ℕ) → t ≤ u → u < length rows → length (get_or rows u []) ≡ 16

row_written : (rows : List (List ℕ)) (t u : ℕ) (new : List ℕ) → length new ≡ 16 → t < length rows → ((u ≡ t → ⊥) → length (get_or rows u []) ≡ 16)
    → length (get_or (set rows t new) u []) ≡ 16
row_written rows t u new is here old = elim (cases_eq u t) [
  | inl same ↦ rw same (ap length (row_same rows t new here) ∙ is)
  | inr other ↦ ap length (get_or-set_other rows t u new [] other) ∙ old other
]

-- one more row, in front of these
pub sixteen_more : (rows : List (List ℕ)) (t u : ℕ) (new : List ℕ) → length new ≡ 16 → t ≡ u + 1 → u < length rows → SixteenFrom rows t → SixteenFrom (set rows u new) u
sixteen_more rows t u new is next here all v low high =
    let long : length (set rows u new) ≡ length rows = length-set rows u new in
    row_written rows u v new is here (λ other. all v (above v u t low next other) (omega (arith, long)))

-- the last row
pub sixteen_first : (rows after : List (List ℕ)) (t : ℕ) (new : List ℕ) → length new ≡ 16 → length rows ≡ t + 1 → after ≡ set rows t new → SixteenFrom after t
sixteen_first rows after t new is long made u low high =
    let same : length (set rows t new) ≡ length rows = length-set rows t new in
    let small : length after ≡ length (set rows t new) = ap length made in
    let here : u ≡ t = omega (arith, small, same) in
    rw (made, here) (ap length (row_same rows t new (omega arith)) ∙ is)

-- all rows
pub sixteen_all : (rows : List (List ℕ)) (t : ℕ) → t ≡ 0 → SixteenFrom rows t → HasRows rows
sixteen_all rows t zero all k d inside = ap length (get_or_default rows k d [] inside) ∙ all k (omega arith) inside
