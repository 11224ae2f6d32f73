-- The places of a table that were found good, in the order step, state and rule.
use Rattle.std.proofs.Common.{◌≡◌, ℕ, ◌+◌, ◌<◌, ◌≤◌, ◌⊎◌, inl, inr, Bool, List, ℤ, arith, sym, subst}
use Rattle.std.proofs.lemmas.Bool.{cases_lt}
use Rattle.tetra_puncture.specs.Plan.{CodePlan}
use Rattle.tetra_puncture.specs.Rules.{Holds, IsAccepted, IsEarlier, IsFirstFailing, rank}
use Rattle.tetra_puncture.specs.declared.rule.Rule.{Rule}

-- all rules hold before step t
pub record CheckedTo (p : CodePlan) (wide : List ℤ) (m : List Bool) (table : List (List ℕ)) (t : ℕ) : Type 0 where
  pub earlier : (u s : ℕ) (rule : Rule) → u < t → s < 16 → Holds p wide m table u s rule

-- all rules hold at the states of step t below n
pub record CheckedRow (p : CodePlan) (wide : List ℤ) (m : List Bool) (table : List (List ℕ)) (t n : ℕ) : Type 0 where
  pub earlier : (s : ℕ) (rule : Rule) → s < n → Holds p wide m table t s rule

module _ (p : CodePlan) (wide : List ℤ) (m : List Bool) (table : List (List ℕ)) where
  pub checked_none : CheckedTo p wide m table 0
  checked_none = record { earlier = λ u s rule h. absurd (omega arith) }

  pub checked_more : (t : ℕ) → CheckedTo p wide m table t → CheckedRow p wide m table t 16 → CheckedTo p wide m table (t + 1)
  checked_more t done row = record {
    earlier = λ u s rule h small. elim (cases_lt u t) [
      | inl lt ↦ done.earlier u s rule lt small
      | inr le ↦
          let e : t ≡ u = omega arith in
          let P : ℕ → Type 0 = λ v. Holds p wide m table v s rule in
          subst P e (row.earlier s rule small)
    ];
  }

  pub checked_all : (t : ℕ) → p.steps < t → CheckedTo p wide m table t → IsAccepted p wide m table
  unfolding IsAccepted
  checked_all t past done = λ u s rule within small. done.earlier u s rule (omega arith) small

  pub row_none : (t : ℕ) → CheckedRow p wide m table t 0
  row_none t = record { earlier = λ s rule h. absurd (omega arith) }

  pub row_more : (t n : ℕ) → CheckedRow p wide m table t n → ((rule : Rule) → Holds p wide m table t n rule) → CheckedRow p wide m table t (n + 1)
  row_more t n row here = record {
    earlier = λ s rule h. elim (cases_lt s n) [
      | inl lt ↦ row.earlier s rule lt
      | inr le ↦
          let e : n ≡ s = omega arith in
          let P : ℕ → Type 0 = λ u. Holds p wide m table t u rule in
          subst P e (here rule)
    ];
  }

  pub first_failing : (t s : ℕ) (rule : Rule) → t ≤ p.steps → s < 16 → CheckedTo p wide m table t → CheckedRow p wide m table t s →
      ((earlier : Rule) → rank earlier < rank rule → Holds p wide m table t s earlier) → ¬ Holds p wide m table t s rule → IsFirstFailing p wide m table t s rule
  unfolding IsEarlier
  first_failing t s rule within small done row here fails = record { in_table = (within, small); fails = fails; earlier = earlier }
    where
      earlier : (t' s' : ℕ) (rule' : Rule) → t' ≤ p.steps → s' < 16 →
          (t' < t) ⊎ ((t' ≡ t) × (s' < s)) ⊎ ((t' ≡ t) × (s' ≡ s) × (rank rule' < rank rule)) → Holds p wide m table t' s' rule'
      earlier t' s' rule' within' small' (inl h) = done.earlier t' s' rule' h small'
      earlier t' s' rule' within' small' (inr (inl h)) =
          let P : ℕ → Type 0 = λ u. Holds p wide m table u s' rule' in
          subst P (sym h.0) (row.earlier s' rule' h.1)
      earlier t' s' rule' within' small' (inr (inr h)) =
          let P : ℕ → Type 0 = λ u. Holds p wide m table u s' rule' in
          let Q : ℕ → Type 0 = λ u. Holds p wide m table t u rule' in
          subst P (sym h.0) (subst Q (sym h.1) (here rule' h.2))
