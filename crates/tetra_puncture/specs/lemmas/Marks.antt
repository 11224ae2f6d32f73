-- Marks of the steps, and the message that is traced by them.
use Rattle.std.proofs.Common.{◌≡◌, ◌≢◌, ℕ, ◌+◌, ◌*◌, ◌/◌, ◌%◌, ◌<◌, ◌≤◌, inl, inr, Bool, true, false, not, cond, eqb, List, length, get_or, set, ℤ, arith, refl, ap, subst, ◌∙◌, get_or-set_other, get_or-set_same}
use Rattle.std.proofs.lemmas.Bool.{cases_lt}
use Rattle.tetra_bits.specs.Readings.{entry}
use Rattle.tetra_mother.specs.Mother.{next_state, number}
use Rattle.tetra_mother.specs.lemmas.States.{state_small}
use Rattle.tetra_puncture.specs.Butterflies.{lane_of, mark_at, MarkedFrom, IsMarked}
use Rattle.tetra_puncture.specs.Decoding.{IsTraced}
use Rattle.tetra_puncture.specs.Plan.{CodePlan, IsMessage, tailed}
use Rattle.tetra_puncture.specs.Trellis.{over_branch, state_passed}
use Rattle.tetra_puncture.specs.lemmas.Rows.{entry_set_other, entry_set_same, over_branch_set}

pub marks_start : (p : CodePlan) (wide : List ℤ) (rows : List (List ℕ)) (marks : List ℕ) (t : ℕ) → p.steps ≤ t + 4 → MarkedFrom p wide rows marks t
marks_start p wide rows marks t late = record { at = λ u s from inside h. absurd (omega arith) }

-- one more step
module _ (p : CodePlan) (wide : List ℤ) (rows : List (List ℕ)) (marks : List ℕ) (new : List ℕ) (mark t u : ℕ)
    (next : t ≡ u + 1) (long : u < length rows) (room : u < length marks) (done : MarkedFrom p wide rows marks t)
    (made : (s : ℕ) → s < 16 → mark_at mark s ≡ cond (eqb (get_or new s 0) (over_branch p wide rows u s false)) 1 0) where
  pub marks_step : MarkedFrom p wide (set rows u new) (set marks u mark) u
  marks_step = record {
    at = λ v s from inside h. elim (cases_lt u v) [
      | inl lt ↦
          let ne : v ≢ u = omega arith in
          let m : get_or (set marks u mark) v 0 ≡ get_or marks v 0 = rw get_or-set_other refl in
          let e : entry (set rows u new) v s ≡ entry rows v s = entry_set_other rows u v s new ne in
          let o : over_branch p wide (set rows u new) v s false ≡ over_branch p wide rows v s false = over_branch_set p wide rows u v s false new (omega arith) in
          ap (λ n. mark_at n s) m ∙ (done.at v s (omega arith) inside h ∙ rw (e, o) refl)
      | inr le ↦
          let e : u ≡ v = omega arith in
          let m : get_or (set marks u mark) u 0 ≡ mark = rw get_or-set_same refl in
          let r : entry (set rows u new) u s ≡ get_or new s 0 = entry_set_same rows u s new long in
          let o : over_branch p wide (set rows u new) u s false ≡ over_branch p wide rows u s false = over_branch_set p wide rows u u s false new (omega arith) in
          let here : mark_at (get_or (set marks u mark) u 0) s ≡ cond (eqb (entry (set rows u new) u s) (over_branch p wide (set rows u new) u s false)) 1 0 =
          ap (λ n. mark_at n s) m ∙ (made s h ∙ rw (r, o) refl) in
          subst (λ (k : ℕ). mark_at (get_or (set marks u mark) k 0) s ≡ cond (eqb (entry (set rows u new) k s) (over_branch p wide (set rows u new) k s false)) 1 0) e here
    ];
  }

not_marked : (t : Bool) (m : ℕ) → m ≡ cond t 1 0 → eqb m 0 ≡ not t
not_marked true m e = ap (λ n. eqb n 0) e
not_marked false m e = ap (λ n. eqb n 0) e

-- a message that goes by the marks is traced
pub marked_is_traced : (p : CodePlan) (wide : List ℤ) (rows : List (List ℕ)) (marks : List ℕ) (m : List Bool) → IsMessage p m →
    MarkedFrom p wide rows marks 0 → IsMarked marks m → IsTraced p wide rows m
unfolding IsMarked IsTraced state_passed
marked_is_traced p wide rows marks m is from marked t h =
    let s : ℕ = state_passed m t in
    let small : state_passed m t < 16 = state_small (tailed m) (t + 1) in
    marked t h ∙ not_marked (eqb (entry rows t (state_passed m t)) (over_branch p wide rows t (state_passed m t) false)) (mark_at (get_or marks t 0) (state_passed m t)) (from.at t (state_passed m t) (omega arith) (omega arith) small)

-- lanes on the way
pub first_lane : 0 ≡ lane_of 0
unfolding lane_of
first_lane = refl

pub next_lane : (lane s : ℕ) (b : Bool) → s < 16 → lane ≡ lane_of s → lane % 8 / 2 + 8 * (lane % 2) + 4 * number b ≡ lane_of (next_state s b)
unfolding lane_of next_state
next_lane lane s true h e = omega arith
next_lane lane s false h e = omega arith

pub lane_small : (s : ℕ) → s < 16 → lane_of s < 16
unfolding lane_of
lane_small s h = omega arith
