-- The values at the places of the mother word.
use Prim.Native.Nat.{zero, suc}
use Rattle.std.proofs.Common.{ℕ, ℤ, pos, ◌+◌, ◌-◌, ◌*◌, ◌<◌, ◌≤◌, ◌≡◌, ◌≢◌, ◌⊎◌, inl, inr, true, false, List, length, get_or, nat_eq, arith, refl, ap, sym, ◌∙◌}
use Rattle.std.proofs.lemmas.Bool.{cases_eq, cases_lt}
use Rattle.std.proofs.lemmas.Bool.Decides.{nat_tests}
use Rattle.tetra_bits.specs.Numbered.{is_numbered, get_or-numbered, length-numbered}
use Rattle.tetra_bits.specs.Soft.{value_at}
use Rattle.tetra_puncture.specs.Plan.{CodePlan, PlacesRise}
use Rattle.tetra_puncture.specs.lemmas.Front.{rise_far}
use Rattle.tetra_puncture.specs.Spread.{IsSpread, value_among, spread_value, spread_values}

-- a value at place v is that of a sent bit which has the place, or 0 where none has
among : (p : CodePlan) (r : List ℤ) (v n : ℕ) → ((j : ℕ) × (1 ≤ j) × (j ≤ n) × (p.place j ≡ v) × (value_among p r v n ≡ value_at r (j - 1)))
    ⊎ (((j : ℕ) → 1 ≤ j → j ≤ n → p.place j ≢ v) × (value_among p r v n ≡ pos 0))
unfolding value_among
among p r v zero = inr ((λ j a b. absurd (omega arith)), refl)
among p r v (suc n) = elim (cases_eq (p.place (suc n)) v) [
  | inl e ↦
      let t : nat_eq (p.place (suc n)) v ≡ true = grind (arith, nat_tests) in
      let back : suc n - 1 ≡ n = omega arith in
      inl (suc n, omega arith, omega arith, e, rw (t, back) refl)
  | inr ne ↦
      let t : nat_eq (p.place (suc n)) v ≡ false = grind (arith, nat_tests) in
      elim (among p r v n) [
        | inl h ↦ inl (h.0, h.1, omega (arith, h.2), h.3, rw t h.4)
        | inr h ↦ inr (
          (λ j a b. elim (cases_eq j (suc n)) [
            | inl e ↦ rw e ne
            | inr other ↦ h.0 j a (omega arith)
          ]),
          rw t h.1,
        )
      ]
]

pub spread_is_values : (p : CodePlan) (r wide : List ℤ) → IsSpread p r wide → wide ≡ spread_values p r
unfolding spread_values spread_value
spread_is_values p r wide s = is_numbered (spread_value p r) (p.outs * p.steps) (pos 0) wide s.size entry
  where
    entry : (k : ℕ) → k < p.outs * p.steps → get_or wide k (pos 0) ≡ spread_value p r (k + 1)
    entry k h = elim (among p r (k + 1) p.sent) [
      | inl f ↦
          let back : p.place f.0 - 1 ≡ k = omega (arith, f.3) in
          ap (λ i. get_or wide i (pos 0)) (sym back) ∙ s.placed f.0 f.1 f.2 ∙ sym f.4
      | inr f ↦
          let back : k + 1 - 1 ≡ k = omega arith in
          ap (λ i. get_or wide i (pos 0)) (sym back) ∙ s.rest (k + 1) (omega arith) (omega arith) f.0 ∙ sym f.1
    ]

-- the place of a sent bit is its own
pub same_place : (p : CodePlan) → PlacesRise p → (i j : ℕ) → 1 ≤ i → i ≤ p.sent → 1 ≤ j → j ≤ p.sent → p.place i ≡ p.place j → i ≡ j
same_place p rise i j a b c d e = elim (cases_lt i j) [
  | inl lt ↦ absurd (omega (arith, rise_far p rise i j a lt d))
  | inr ge ↦ elim (cases_lt j i) [
    | inl lt ↦ absurd (omega (arith, rise_far p rise j i c lt b))
    | inr le ↦ omega arith
  ]
]

pub value_sent : (p : CodePlan) (r : List ℤ) → PlacesRise p → (j : ℕ) → 1 ≤ j → j ≤ p.sent → spread_value p r (p.place j) ≡ value_at r (j - 1)
unfolding spread_value
value_sent p r rise j a b = elim (among p r (p.place j) p.sent) [
  | inl f ↦ let e : f.0 ≡ j = same_place p rise f.0 j f.1 f.2 a b f.3 in f.4 ∙ ap (λ i. value_at r (i - 1)) e
  | inr f ↦ absurd (f.0 j a b refl)
]

pub value_not_sent : (p : CodePlan) (r : List ℤ) (v : ℕ) → ((j : ℕ) → 1 ≤ j → j ≤ p.sent → p.place j ≢ v) → spread_value p r v ≡ pos 0
unfolding spread_value
value_not_sent p r v unsent = elim (among p r v p.sent) [ inl f ↦ absurd (unsent f.0 f.1 f.2 f.3) | inr f ↦ f.1 ]

pub value_at_spread : (p : CodePlan) (r : List ℤ) (k : ℕ) → k < p.outs * p.steps → value_at (spread_values p r) k ≡ spread_value p r (k + 1)
unfolding spread_values
value_at_spread p r k h = get_or-numbered (spread_value p r) (p.outs * p.steps) k (pos 0) h

pub length-spread_values : (p : CodePlan) (r : List ℤ) → length (spread_values p r) ≡ p.outs * p.steps
unfolding spread_values
length-spread_values p r = length-numbered (spread_value p r) (p.outs * p.steps)
