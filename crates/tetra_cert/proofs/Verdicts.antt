-- From the steps that were checked to the verdict.
use Rattle.std.proofs.Common.{◌≡◌, ℕ, ◌<◌, ◌≤◌, Bool, List, ℤ, Some, subst}
use Rattle.tetra_puncture.specs.lemmas.Certificates.{accepted_is_certified}
use Rattle.tetra_puncture.specs.lemmas.Checking.{CheckedTo, checked_all, first_failing}
use Rattle.tetra_puncture.specs.Certified.{Fits, IsCertified}
use Rattle.tetra_puncture.specs.Plan.{CodePlan}
use Rattle.tetra_puncture.specs.Rules.{IsAccepted, IsFirstFailing}
use Rattle.tetra_puncture.specs.Spread.{spread_values}
use Rattle.tetra_cert.specs.Checked.{IsFirstOfRules, IsFirstOfStates}
use Rattle.tetra_cert.specs.declared.rules.Failing.{Failing}

module _ (p : CodePlan) (r wide : List ℤ) (m : List Bool) (table : List (List ℕ)) (same : wide ≡ spread_values p r) where
  -- all steps were checked
  pub accepted : (t : ℕ) → p.steps < t → CheckedTo p wide m table t → IsAccepted p (spread_values p r) m table
  accepted t past done = subst (λ (w : List ℤ). IsAccepted p w m table) same (checked_all p wide m table t past done)

  -- a rule does not hold at step t
  pub refused : (t : ℕ) (failing : Failing) → t ≤ p.steps → CheckedTo p wide m table t → IsFirstOfStates p wide m table t (Some failing) →
      IsFirstFailing p (spread_values p r) m table t failing.state failing.rule
  unfolding IsFirstOfStates IsFirstOfRules
  refused t failing within done found =
      subst (λ (w : List ℤ). IsFirstFailing p w m table t failing.state failing.rule) same
      (first_failing p wide m table t failing.state failing.rule within found.0 done (record { earlier = found.1 }) found.2.1 found.2.0)

  -- so not all rules hold
  pub not_accepted : (t : ℕ) (failing : Failing) → t ≤ p.steps → IsFirstOfStates p wide m table t (Some failing) → IsAccepted p (spread_values p r) m table → ⊥
  unfolding IsFirstOfStates IsFirstOfRules IsAccepted
  not_accepted t failing within found ok =
      let all : IsAccepted p wide m table = rw same ok in
      found.2.0 (all t failing.state failing.rule within found.0)

  -- and where they do, the message is certified
  pub certified : (t : ℕ) → Fits p r m → p.steps < t → CheckedTo p wide m table t → IsCertified p r m table
  certified t fits past done = accepted_is_certified p r m table fits (accepted t past done)
