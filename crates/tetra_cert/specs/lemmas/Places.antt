-- The places of a table, and the first that fails.
use Prim.Native.Nat.{zero, suc}
use Rattle.std.proofs.Common.{◌≡◌, ℕ, ◌+◌, ◌<◌, inl, inr, Bool, true, false, not, List, [], ◌∷◌, ◌++◌, ℤ, Option, Some, None, arith, refl, sym, ap, subst, ◌∙◌}
use Rattle.std.proofs.lemmas.Bool.{cases_lt}
use Rattle.std.proofs.lemmas.Bool.Decides.{nat_tests}
use Rattle.std.proofs.lemmas.List.Folds.{find-append}
use Rattle.std.specs.List.{find}
use Rattle.tetra_puncture.specs.Plan.{CodePlan}
use Rattle.tetra_puncture.specs.Rules.{Holds, IsAccepted, IsEarlier, IsFirstFailing, rank}
use Rattle.tetra_puncture.specs.Spread.{spread_values}
use Rattle.tetra_puncture.specs.declared.rule.Rule.{Rule}
use Rattle.tetra_puncture.specs.declared.rule.Rule.TheVariants.{End, Edge0, Edge1, Path, Tie}
use Rattle.tetra_cert.specs.declared.verdict.Verdict.{Verdict}
use Rattle.tetra_cert.specs.declared.verdict.Verdict.TheVariants.{Accepted, Refused}
use Rattle.tetra_cert.specs.Checked.{IsRight}
use Rattle.tetra_cert.specs.Verdicts.{AcceptedExactly, Place, is_met, fails, places_at, places_of_states, places_of_steps, verdict_at, verdict_of}

module _ (p : CodePlan) (wide : List ℤ) (m : List Bool) (table : List (List ℕ)) where
  -- the tests decide the rules
  pub met : (t s : ℕ) (rule : Rule) → Holds p wide m table t s rule → is_met p wide m table t s rule ≡ true
  unfolding Holds is_met
  met t s End h = grind (arith, nat_tests)
  met t s Edge0 h = grind (arith, nat_tests)
  met t s Edge1 h = grind (arith, nat_tests)
  met t s Path h = grind (arith, nat_tests)
  met t s Tie h = grind (arith, nat_tests)

  pub not_met : (t s : ℕ) (rule : Rule) → ¬ Holds p wide m table t s rule → is_met p wide m table t s rule ≡ false
  unfolding Holds is_met
  not_met t s End h = grind (arith, nat_tests)
  not_met t s Edge0 h = grind (arith, nat_tests)
  not_met t s Edge1 h = grind (arith, nat_tests)
  not_met t s Path h = grind (arith, nat_tests)
  not_met t s Tie h = grind (arith, nat_tests)

  -- the first that fails in a list and one behind it
  behind : (xs ys : List Place) → find (fails p wide m table) xs ≡ None → find (fails p wide m table) (xs ++ ys) ≡ find (fails p wide m table) ys
  behind xs ys e = find-append (fails p wide m table) xs ys ∙ rw e refl

  within : (xs ys : List Place) (x : Place) → find (fails p wide m table) xs ≡ Some x → find (fails p wide m table) (xs ++ ys) ≡ Some x
  within xs ys x e = find-append (fails p wide m table) xs ys ∙ rw e refl

  none_at : (t s : ℕ) → ((rule : Rule) → is_met p wide m table t s rule ≡ true) → find (fails p wide m table) (places_at t s) ≡ None
  unfolding fails places_at
  none_at t s ok = rw (ok End, ok Edge0, ok Edge1, ok Path, ok Tie) refl

  none_of_states : (t n : ℕ) → ((s : ℕ) (rule : Rule) → s < n → is_met p wide m table t s rule ≡ true) → find (fails p wide m table) (places_of_states t n) ≡ None
  unfolding places_of_states
  none_of_states t zero ok = refl
  none_of_states t (suc n) ok =
      behind (places_of_states t n) (places_at t n) (none_of_states t n (λ s rule h. ok s rule (omega arith))) ∙ none_at t n (λ rule. ok n rule (omega arith))

  none_of_steps : (n : ℕ) → ((t s : ℕ) (rule : Rule) → t < n → s < 16 → is_met p wide m table t s rule ≡ true) → find (fails p wide m table) (places_of_steps n) ≡ None
  unfolding places_of_steps
  none_of_steps zero ok = refl
  none_of_steps (suc n) ok =
      behind (places_of_steps n) (places_of_states n 16) (none_of_steps n (λ t s rule h. ok t s rule (omega arith))) ∙ none_of_states n 16 (λ s rule h. ok n s rule (omega arith) h)

  some_at : (t s : ℕ) (rule : Rule) → is_met p wide m table t s rule ≡ false → ((earlier : Rule) → rank earlier < rank rule → is_met p wide m table t s earlier ≡ true) →
      find (fails p wide m table) (places_at t s) ≡ Some (record { step = t; state = s; rule = rule })
  unfolding fails places_at rank
  some_at t s End bad ok = rw bad refl
  some_at t s Edge0 bad ok = rw (ok End (omega arith), bad) refl
  some_at t s Edge1 bad ok = rw (ok End (omega arith), ok Edge0 (omega arith), bad) refl
  some_at t s Path bad ok = rw (ok End (omega arith), ok Edge0 (omega arith), ok Edge1 (omega arith), bad) refl
  some_at t s Tie bad ok = rw (ok End (omega arith), ok Edge0 (omega arith), ok Edge1 (omega arith), ok Path (omega arith), bad) refl

  some_of_states : (t s : ℕ) (rule : Rule) → is_met p wide m table t s rule ≡ false → ((earlier : Rule) → rank earlier < rank rule → is_met p wide m table t s earlier ≡ true) →
      ((u : ℕ) (r : Rule) → u < s → is_met p wide m table t u r ≡ true) →
      (n : ℕ) → s < n → find (fails p wide m table) (places_of_states t n) ≡ Some (record { step = t; state = s; rule = rule })
  unfolding places_of_states
  some_of_states t s rule bad ok before zero h = absurd (omega arith)
  some_of_states t s rule bad ok before (suc n) h = elim (cases_lt s n) [
    | inl lt ↦ within (places_of_states t n) (places_at t n) (record { step = t; state = s; rule = rule }) (some_of_states t s rule bad ok before n lt)
    | inr le ↦
        let e : n ≡ s = omega arith in
        behind (places_of_states t n) (places_at t n) (none_of_states t n (λ u r lt. before u r (omega arith))) ∙ rw e (some_at t s rule bad ok)
  ]

  some_of_steps : (t s : ℕ) (rule : Rule) → is_met p wide m table t s rule ≡ false → ((earlier : Rule) → rank earlier < rank rule → is_met p wide m table t s earlier ≡ true) →
      ((u : ℕ) (r : Rule) → u < s → is_met p wide m table t u r ≡ true) → s < 16 →
      ((k u : ℕ) (r : Rule) → k < t → u < 16 → is_met p wide m table k u r ≡ true) →
      (n : ℕ) → t < n → find (fails p wide m table) (places_of_steps n) ≡ Some (record { step = t; state = s; rule = rule })
  unfolding places_of_steps
  some_of_steps t s rule bad ok row small before zero h = absurd (omega arith)
  some_of_steps t s rule bad ok row small before (suc n) h = elim (cases_lt t n) [
    | inl lt ↦ within (places_of_steps n) (places_of_states n 16) (record { step = t; state = s; rule = rule }) (some_of_steps t s rule bad ok row small before n lt)
    | inr le ↦
        let e : n ≡ t = omega arith in
        behind (places_of_steps n) (places_of_states n 16) (none_of_steps n (λ k u r lt. before k u r (omega arith))) ∙ rw e (some_of_states t s rule bad ok row 16 small)
  ]

  pub first_is_verdict : (t s : ℕ) (rule : Rule) → IsFirstFailing p wide m table t s rule → find (fails p wide m table) (places_of_steps (p.steps + 1)) ≡ Some (record { step = t; state = s; rule = rule })
  unfolding IsEarlier
  first_is_verdict t s rule f =
      some_of_steps t s rule (not_met t s rule f.fails)
      (λ earlier h. met t s earlier (f.earlier t s earlier f.in_table.0 f.in_table.1 (inr (inr (refl, refl, h)))))
      (λ u r h. met t u r (f.earlier t u r f.in_table.0 (omega (arith, f.in_table)) (inr (inl (refl, h)))))
      f.in_table.1
      (λ k u r h small. met k u r (f.earlier k u r (omega (arith, f.in_table)) small (inl h)))
      (p.steps + 1) (omega (arith, f.in_table))

  pub none_is_verdict : IsAccepted p wide m table → find (fails p wide m table) (places_of_steps (p.steps + 1)) ≡ None
  unfolding IsAccepted
  none_is_verdict ok = none_of_steps (p.steps + 1) (λ t s rule h small. met t s rule (ok t s rule (omega arith) small))

  -- where none fails
  none_left : (xs ys : List Place) → find (fails p wide m table) (xs ++ ys) ≡ None → (find (fails p wide m table) xs ≡ None) × (find (fails p wide m table) ys ≡ None)
  none_left xs ys e = at (find (fails p wide m table) xs) refl
    where
      at : (found : Option Place) → find (fails p wide m table) xs ≡ found → (find (fails p wide m table) xs ≡ None) × (find (fails p wide m table) ys ≡ None)
      at None is = (is, sym (behind xs ys is) ∙ e)
      at (Some place) is = let clash : Some place ≡ None = sym (within xs ys place is) ∙ e in absurd (cc)

  -- the first of a list and those behind it
  none_first : (x : Place) (xs : List Place) → find (fails p wide m table) (x ∷ xs) ≡ None → (fails p wide m table x ≡ false) × (find (fails p wide m table) xs ≡ None)
  none_first x xs e = at (fails p wide m table x) refl
    where
      at : (b : Bool) → fails p wide m table x ≡ b → (fails p wide m table x ≡ false) × (find (fails p wide m table) xs ≡ None)
      at false is = (is, let skip : find (fails p wide m table) (x ∷ xs) ≡ find (fails p wide m table) xs = rw is refl in sym skip ∙ e)
      at true is = let clash : Some x ≡ None = (let hit : find (fails p wide m table) (x ∷ xs) ≡ Some x = rw is refl in sym hit ∙ e) in absurd (cc)

  met_by : (t s : ℕ) (rule : Rule) → fails p wide m table (record { step = t; state = s; rule = rule }) ≡ false → is_met p wide m table t s rule ≡ true
  unfolding fails
  met_by t s rule e = at (is_met p wide m table t s rule) refl
    where
      at : (b : Bool) → is_met p wide m table t s rule ≡ b → is_met p wide m table t s rule ≡ true
      at true is = is
      at false is = let clash : true ≡ false = sym (ap not is) ∙ e in absurd (cc)

  met_at : (t s : ℕ) → find (fails p wide m table) (places_at t s) ≡ None → (rule : Rule) → is_met p wide m table t s rule ≡ true
  unfolding places_at
  met_at t s e rule =
      let one = none_first (record { step = t; state = s; rule = End }) (record { step = t; state = s; rule = Edge0 } ∷ record { step = t; state = s; rule = Edge1 } ∷ record { step = t; state = s; rule = Path } ∷ record { step = t; state = s; rule = Tie } ∷ []) e in
      let two = none_first (record { step = t; state = s; rule = Edge0 }) (record { step = t; state = s; rule = Edge1 } ∷ record { step = t; state = s; rule = Path } ∷ record { step = t; state = s; rule = Tie } ∷ []) one.1 in
      let three = none_first (record { step = t; state = s; rule = Edge1 }) (record { step = t; state = s; rule = Path } ∷ record { step = t; state = s; rule = Tie } ∷ []) two.1 in
      let four = none_first (record { step = t; state = s; rule = Path }) (record { step = t; state = s; rule = Tie } ∷ []) three.1 in
      let five = none_first (record { step = t; state = s; rule = Tie }) [] four.1 in
      at (met_by t s End one.0) (met_by t s Edge0 two.0) (met_by t s Edge1 three.0) (met_by t s Path four.0) (met_by t s Tie five.0) rule
    where
      at : is_met p wide m table t s End ≡ true → is_met p wide m table t s Edge0 ≡ true → is_met p wide m table t s Edge1 ≡ true → is_met p wide m table t s Path ≡ true → is_met p wide m table t s Tie ≡ true →
          (rule : Rule) → is_met p wide m table t s rule ≡ true
      at a b c d e End = a
      at a b c d e Edge0 = b
      at a b c d e Edge1 = c
      at a b c d e Path = d
      at a b c d e Tie = e

  met_of_states : (t n : ℕ) → find (fails p wide m table) (places_of_states t n) ≡ None → (s : ℕ) (rule : Rule) → s < n → is_met p wide m table t s rule ≡ true
  unfolding places_of_states
  met_of_states t zero e s rule h = absurd (omega arith)
  met_of_states t (suc n) e s rule h =
      let both = none_left (places_of_states t n) (places_at t n) e in
      elim (cases_lt s n) [
        | inl lt ↦ met_of_states t n both.0 s rule lt
        | inr le ↦ let is : n ≡ s = omega arith in subst (λ (u : ℕ). is_met p wide m table t u rule ≡ true) is (met_at t n both.1 rule)
      ]

  met_of_steps : (n : ℕ) → find (fails p wide m table) (places_of_steps n) ≡ None → (t s : ℕ) (rule : Rule) → t < n → s < 16 → is_met p wide m table t s rule ≡ true
  unfolding places_of_steps
  met_of_steps zero e t s rule h small = absurd (omega arith)
  met_of_steps (suc n) e t s rule h small =
      let both = none_left (places_of_steps n) (places_of_states n 16) e in
      elim (cases_lt t n) [
        | inl lt ↦ met_of_steps n both.0 t s rule lt small
        | inr le ↦ let is : n ≡ t = omega arith in subst (λ (u : ℕ). is_met p wide m table u s rule ≡ true) is (met_of_states n 16 both.1 s rule small)
      ]

  holds_by : (t s : ℕ) (rule : Rule) → is_met p wide m table t s rule ≡ true → Holds p wide m table t s rule
  unfolding Holds is_met
  holds_by t s End e = λ at_end. grind (arith, nat_tests)
  holds_by t s Edge0 e = λ inside. grind (arith, nat_tests)
  holds_by t s Edge1 e = λ inside. grind (arith, nat_tests)
  holds_by t s Path e = λ inside here. grind (arith, nat_tests)
  holds_by t s Tie e = λ inside here one. grind (arith, nat_tests)

  pub none_is_accepted : find (fails p wide m table) (places_of_steps (p.steps + 1)) ≡ None → IsAccepted p wide m table
  unfolding IsAccepted
  none_is_accepted e = λ t s rule inside small. holds_by t s rule (met_of_steps (p.steps + 1) e t s rule (omega arith) small)

-- a right verdict is the verdict
pub right_is_verdict : (p : CodePlan) (r : List ℤ) (m : List Bool) (table : List (List ℕ)) (v : Verdict) → IsRight p r m table v → v ≡ verdict_of p r m table
unfolding IsRight verdict_of verdict_at
right_is_verdict p r m table Accepted h = rw (none_is_verdict p (spread_values p r) m table h) refl
right_is_verdict p r m table (Refused t s rule) h = rw (first_is_verdict p (spread_values p r) m table t s rule h) refl

pub accepted_exactly : AcceptedExactly
unfolding IsRight verdict_of verdict_at
accepted_exactly p r m table = (λ e. at (find (fails p (spread_values p r) m table) (places_of_steps (p.steps + 1))) refl e, λ ok. sym (right_is_verdict p r m table Accepted ok))
  where
    at : (found : Option Place) → find (fails p (spread_values p r) m table) (places_of_steps (p.steps + 1)) ≡ found → verdict_of p r m table ≡ Accepted → IsAccepted p (spread_values p r) m table
    at None is e = none_is_accepted p (spread_values p r) m table is
    at (Some place) is e = let clash : Refused place.step place.state place.rule ≡ Accepted = sym (ap verdict_at is) ∙ e in absurd (cc)
