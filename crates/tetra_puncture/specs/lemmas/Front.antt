-- Soft values that are written at their places in a list of zeros.
use Prim.Native.Nat.{zero, suc}
use Rattle.std.proofs.Common.{ℕ, ℤ, pos, ◌+◌, ◌-◌, ◌*◌, ◌<◌, ◌≤◌, ◌≡◌, ◌≢◌, List, length, get_or, replicate, arith, ap, ◌∙◌, inl, inr, subst}
use Rattle.std.specs.Prelude.{slice_set}
use Rattle.std.proofs.lemmas.List.{get_or-set_same, get_or-set_other, get_or-replicate, length-replicate}
use Rattle.std.proofs.lemmas.Bool.{cases_lt}
use Rattle.tetra_puncture.specs.Plan.{CodePlan, PlacesRise, PlacesLie}
use Rattle.tetra_puncture.specs.Spread.{IsSpread, IsSpreadTo}

-- places rise over any distance
pub rise_far : (p : CodePlan) → PlacesRise p → (j k : ℕ) → 1 ≤ j → j < k → k ≤ p.sent → p.place j < p.place k
rise_far p r j zero a b c = absurd (omega arith)
rise_far p r j (suc k) a b c =
    let e : k + 1 ≡ suc k = omega arith in
    let next : p.place k < p.place (suc k) = subst (λ (n : ℕ). p.place k < p.place n) e (r k (omega arith) (omega arith)) in
    elim (cases_lt j k) [
      | inl lt ↦ let far = rise_far p r j k a lt (omega arith) in omega arith
      | inr ge ↦ let same : j ≡ k = omega arith in rw same next
    ]

-- nothing is written yet
pub spread_none : (p : CodePlan) (soft wide : List ℤ) (n : ℕ) → n ≡ p.outs * p.steps → wide ≡ replicate n (pos 0) → IsSpreadTo p soft 0 wide
spread_none p soft wide n en ew =
    record {
      size = ap length ew ∙ length-replicate n (pos 0) ∙ en;
      placed = λ j a b. absurd (omega (arith, a, b));
      rest = λ v a b other. ap (λ xs. get_or xs (v - 1) (pos 0)) ew ∙ get_or-replicate n (v - 1) (pos 0) (pos 0) (omega arith);
    }

-- one more value is written
module _ (p : CodePlan) (soft old new : List ℤ) (n v : ℕ) (x : ℤ)
    (r : PlacesRise p) (l : PlacesLie p) (f : IsSpreadTo p soft n old) (h : n < p.sent) (ev : v ≡ p.place (n + 1))
    (ex : x ≡ get_or soft n (pos 0)) (en : new ≡ slice_set old (v - 1) x) (size : length new ≡ length old) where
  other_place : (k : ℕ) → k ≢ v - 1 → get_or new k (pos 0) ≡ get_or old k (pos 0)
  other_place k ne = ap (λ xs. get_or xs k (pos 0)) en ∙ get_or-set_other old (v - 1) k x (pos 0) (omega (arith, ne))

  at_place : get_or new (v - 1) (pos 0) ≡ x
  at_place =
      let lie = l (n + 1) (omega arith) (omega arith) in
      ap (λ xs. get_or xs (v - 1) (pos 0)) en ∙ get_or-set_same old (v - 1) x (pos 0) (omega (arith, f.size, lie))

  placed : (j : ℕ) → 1 ≤ j → j ≤ n + 1 → get_or new (p.place j - 1) (pos 0) ≡ get_or soft (j - 1) (pos 0)
  placed j a b = elim (cases_lt j (n + 1)) [
    | inl lt ↦
        let far = rise_far p r j (n + 1) a lt (omega arith) in
        let lie = l j a (omega arith) in
        other_place (p.place j - 1) (omega arith) ∙ f.placed j a (omega arith)
    | inr ge ↦
        let same : j ≡ n + 1 = omega arith in
        let back : n + 1 - 1 ≡ n = omega arith in
        rw (same, ← ev, back) (at_place ∙ ex)
  ]

  pub spread_more : IsSpreadTo p soft (n + 1) new
  spread_more =
      record {
        size = size ∙ f.size;
        placed = placed;
        rest = λ w a b other.
            let here : p.place (n + 1) ≢ w = other (n + 1) (omega arith) (omega arith) in
            let lie = l (n + 1) (omega arith) (omega arith) in
            other_place (w - 1) (omega (arith, here)) ∙ f.rest w a b (λ j c d. other j c (omega arith));
      }

-- all are written
pub spread_all : (p : CodePlan) (soft wide : List ℤ) (n : ℕ) → IsSpreadTo p soft n wide → n ≡ p.sent → IsSpread p soft wide
spread_all p soft wide n f e =
    record {
      size = f.size;
      placed = λ j a b. f.placed j a (omega arith);
      rest = λ v a b other. f.rest v a b (λ j c d. other j c (omega arith));
    }
