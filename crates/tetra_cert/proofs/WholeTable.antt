-- A table whose rows come one from the next, with the last row 0, holds the costs to go.
use Prim.Native.Nat.{zero, suc}
use Rattle.std.proofs.Common.{◌≡◌, ℕ, ◌+◌, ◌-◌, ◌*◌, ◌<◌, ◌≤◌, inl, inr, Bool, true, false, not, cond, eqb, min, List, [], get_or, ℤ, arith, sym, ap, ◌∙◌}
use Rattle.std.proofs.lemmas.Bool.{cases_lt}
use Rattle.std.proofs.lemmas.List.{get_or-replicate}
use Rattle.tetra_bits.specs.Order.{bit_at}
use Rattle.tetra_bits.specs.Readings.{entry}
use Rattle.tetra_bits.specs.Soft.{AllSoft}
use Rattle.tetra_mother.specs.Mother.{next_state}
use Rattle.tetra_mother.specs.lemmas.States.{next_small, state_small}
use Rattle.tetra_puncture.specs.Butterflies.{lane_of, mark_at, way_over, least_over}
use Rattle.tetra_puncture.specs.Decoding.{IsBackward, IsTraced}
use Rattle.tetra_puncture.specs.Plan.{CodePlan, IsMessage, tailed}
use Rattle.tetra_puncture.specs.Rules.{IsAccepted}
use Rattle.tetra_puncture.specs.Trellis.{step_cost, state_passed}
use Rattle.tetra_puncture.specs.lemmas.Bounds.{step_cost_fits}
use Rattle.tetra_puncture.specs.lemmas.Rows.{traced_accepted}
use Rattle.tetra_puncture.specs.lemmas.Stepping.{least_is_exact, zero_is_exact, marks_are_exact, least_is_over, over_is_way}
use Rattle.tetra_cert.specs.Tables.{RowFits, FreeRowsFit, TailRowsFit}

lesser_first : (b : Bool) (x y : ℕ) → cond b (min x y) x ≤ x
lesser_first true x y = omega arith
lesser_first false x y = omega arith

least_small : (p : CodePlan) (wide : List ℤ) (t : ℕ) (after : List ℕ) (s : ℕ) → least_over p wide t after s ≤ way_over p wide t after s false
unfolding least_over
least_small p wide t after s = lesser_first _ (way_over p wide t after s false) (way_over p wide t after s true)

not_marked : (t : Bool) (m : ℕ) → m ≡ cond t 1 0 → eqb m 0 ≡ not t
not_marked true m e = ap (λ n. eqb n 0) e
not_marked false m e = ap (λ n. eqb n 0) e

module _ (p : CodePlan) (wide : List ℤ) (m : List Bool) (table : List (List ℕ)) (few : p.outs ≤ 4) (short : p.steps ≤ 292) (soft : AllSoft wide)
    (is : IsMessage p m) (free : FreeRowsFit p wide m table) (tail : TailRowsFit p wide table) where
  row_at : ℕ → List ℕ
  row_at t = get_or table t []

  exact_at : (t : ℕ) → t < p.steps → ((s : ℕ) → s < 16 → get_or (row_at (t + 1)) s 0 ≤ 2147483648)
      → (s : ℕ) → s < 16 → get_or (row_at t) s 0 ≡ least_over p wide t (row_at (t + 1)) s
  unfolding row_at
  exact_at t inside room = elim (cases_lt (t + 4) p.steps) [
    | inl lt ↦ least_is_exact p wide t (get_or table (t + 1) []) few soft room (get_or table t []) (free.step t (omega arith)).row lt
    | inr ge ↦ zero_is_exact p wide t (get_or table (t + 1) []) few soft room (get_or table t []) (tail.step t ge inside) ge
  ]

  small : (n t s : ℕ) → t + n ≡ p.steps → s < 16 → get_or (row_at t) s 0 ≤ 131072 * n
  unfolding row_at way_over
  small zero t s long h =
      let at_end : t ≡ p.steps = omega arith in
      let e : get_or (get_or table t []) s 0 ≡ 0 = ap (λ u. get_or (get_or table u []) s 0) at_end ∙ (ap (λ l. get_or l s 0) tail.end ∙ get_or-replicate 16 s 0 0 h) in
      omega arith
  small (suc n) t s long h =
      let behind : (s : ℕ) → s < 16 → get_or (row_at (t + 1)) s 0 ≤ 131072 * n = λ s h. small n (t + 1) s (omega arith) h in
      let e : get_or (get_or table t []) s 0 ≡ least_over p wide t (get_or table (t + 1) []) s = exact_at t (omega arith) (λ s h. omega (arith, behind s h)) s h in
      let c : step_cost p wide t s false ≤ 131072 = step_cost_fits p wide t s false few soft in
      let r : get_or (get_or table (t + 1) []) (next_state s false) 0 ≤ 131072 * n = behind (next_state s false) (next_small s false h) in
      let l : least_over p wide t (get_or table (t + 1) []) s ≤ step_cost p wide t s false + get_or (get_or table (t + 1) []) (next_state s false) 0 = least_small p wide t (get_or table (t + 1) []) s in
      omega arith

  room_at : (t : ℕ) → t < p.steps → (s : ℕ) → s < 16 → get_or (row_at (t + 1)) s 0 ≤ 2147483648
  room_at t inside s h =
      let e : get_or (row_at (t + 1)) s 0 ≤ 131072 * (p.steps - (t + 1)) = small (p.steps - (t + 1)) (t + 1) s (omega arith) h in
      omega arith

  backward : IsBackward p wide table
  unfolding row_at entry
  backward = record {
    end = λ s h. ap (λ l. get_or l s 0) tail.end ∙ get_or-replicate 16 s 0 0 h;
    before = λ t s inside h. exact_at t inside (room_at t inside) s h ∙ sym (least_is_over p wide table t s);
  }

  traced : IsTraced p wide table m
  unfolding IsTraced row_at entry mark_at state_passed
  traced t h =
      let inside : t < p.steps = omega arith in
      let s : ℕ = state_passed m t in
      let lt : state_passed m t < 16 = state_small (tailed m) (t + 1) in
      let fits : RowFits p wide table t (lane_of (state_passed m t)) (bit_at m t) = free.step t h in
      let mark = marks_are_exact p wide t (get_or table (t + 1) []) few soft (room_at t inside) (get_or table t []) fits.marks fits.marked (state_passed m t) lt in
      fits.bit_is ∙ (not_marked _ _ mark ∙ ap (λ n. not (eqb (entry table t (state_passed m t)) n)) (sym (over_is_way p wide table t (state_passed m t) false)))

  pub all_accepted : IsAccepted p wide m table
  all_accepted = traced_accepted p wide table backward m is traced
