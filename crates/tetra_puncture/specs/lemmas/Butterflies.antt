-- The branches of a butterfly.
use Prim.Native.Nat.{zero, suc}
use Rattle.std.proofs.Common.{◌≡◌, ℕ, ◌+◌, ◌*◌, ◌/◌, ◌%◌, ◌<◌, ◌≤◌, inl, inr, Bool, true, false, not, ◌&&◌, cond, eqb, nat_lt, List, [], get_or, ℤ, pos, arith, refl, sym, ap, ◌∙◌}
use Rattle.std.proofs.lemmas.Bool.{lt-ltb, cases_lt}
use Rattle.tetra_bits.specs.Cost.{cost}
use Rattle.tetra_bits.specs.Sums.{bit_number}
use Rattle.tetra_mother.specs.Mother.{add2, edge}
use Rattle.tetra_puncture.specs.Butterflies.{IsPaired, mask_of, HasMasks, is_masked, AreMasks, masked_cost, turned_cost}
use Rattle.tetra_puncture.specs.Labels.{number_of, branch_output, branch_label, AreLabels, IsStep}
use Rattle.tetra_puncture.specs.Plan.{CodePlan}
use Rattle.tetra_puncture.specs.Trellis.{step_cost}
use Rattle.tetra_puncture.specs.declared.branches.Labels.{Labels}
use Rattle.tetra_puncture.specs.lemmas.Outputs.{four_outputs}

-- five bits, summed
five : Bool → Bool → Bool → Bool → Bool → Bool
five a b c d e = add2 (add2 (add2 (add2 (add2 false a) b) c) d) e

turned_first : (a b c : Bool) → five true a b c false ≡ not (five false a b c false)
unfolding five
turned_first true true true = refl
turned_first true true false = refl
turned_first true false true = refl
turned_first true false false = refl
turned_first false true true = refl
turned_first false true false = refl
turned_first false false true = refl
turned_first false false false = refl

turned_last : (a b c : Bool) → five false a b c true ≡ not (five false a b c false)
unfolding five
turned_last true true true = refl
turned_last true true false = refl
turned_last true false true = refl
turned_last true false false = refl
turned_last false true true = refl
turned_last false true false = refl
turned_last false false true = refl
turned_last false false false = refl

turned_twice : (a b c : Bool) → five true a b c true ≡ five false a b c false
unfolding five
turned_twice true true true = refl
turned_twice true true false = refl
turned_twice true false true = refl
turned_twice true false false = refl
turned_twice false true true = refl
turned_twice false true false = refl
turned_twice false false true = refl
turned_twice false false false = refl

-- the outputs of the states 2 k and 2 k + 1
module _ (taps : ℕ → ℕ → Bool) (i k : ℕ) (first : taps i 0 ≡ true) (last : taps i 4 ≡ true) where
  one : Bool
  one = eqb (2 * k / 8 % 2) 1 && taps i 1

  two : Bool
  two = eqb (2 * k / 4 % 2) 1 && taps i 2

  three : Bool
  three = eqb (2 * k / 2 % 2) 1 && taps i 3

  even_last : eqb (2 * k / 1 % 2) 1 ≡ false
  even_last = let e : 2 * k / 1 % 2 ≡ 0 = omega arith in ap (λ n. eqb n 1) e

  odd_last : eqb ((2 * k + 1) / 1 % 2) 1 ≡ true
  odd_last = let e : (2 * k + 1) / 1 % 2 ≡ 1 = omega arith in ap (λ n. eqb n 1) e

  even_zero : edge taps (2 * k) false i ≡ five false one two three false
  unfolding edge five one two three
  even_zero = rw even_last refl

  even_one : edge taps (2 * k) true i ≡ five true one two three false
  unfolding edge five one two three
  even_one = rw (even_last, first) refl

  half_eight : (2 * k + 1) / 8 ≡ 2 * k / 8
  half_eight = omega arith

  half_four : (2 * k + 1) / 4 ≡ 2 * k / 4
  half_four = omega arith

  half_two : (2 * k + 1) / 2 ≡ 2 * k / 2
  half_two = omega arith

  odd_zero : edge taps (2 * k + 1) false i ≡ five false one two three true
  unfolding edge five one two three
  odd_zero = rw (odd_last, half_eight, half_four, half_two, last) refl

  odd_one : edge taps (2 * k + 1) true i ≡ five true one two three true
  unfolding edge five one two three
  odd_one = rw (odd_last, half_eight, half_four, half_two, first, last) refl

  pub even_turned : edge taps (2 * k) true i ≡ not (edge taps (2 * k) false i)
  even_turned = even_one ∙ (turned_first one two three ∙ ap not (sym even_zero))

  pub odd_turned : edge taps (2 * k + 1) false i ≡ not (edge taps (2 * k) false i)
  odd_turned = odd_zero ∙ (turned_last one two three ∙ ap not (sym even_zero))

  pub odd_same : edge taps (2 * k + 1) true i ≡ edge taps (2 * k) false i
  odd_same = odd_one ∙ (turned_twice one two three ∙ sym even_zero)

no_cost : (b : Bool) → cost (pos 0) b ≡ 0
unfolding cost
no_cost true = refl
no_cost false = refl

-- the costs of outputs that are the same or complements, where the values past the last are 0
module _ (taps : ℕ → ℕ → Bool) (outs : ℕ) (values : List ℤ) (paired : IsPaired taps outs) (past : (j : ℕ) → outs ≤ j → get_or values j (pos 0) ≡ pos 0) where
  same_cost : (s s' j : ℕ) (b b' : Bool) (turned : Bool → Bool) → (j < outs → edge taps s b (j + 1) ≡ turned (edge taps s' b' (j + 1)))
      → cost (get_or values j (pos 0)) (branch_output taps outs s b j) ≡ cost (get_or values j (pos 0)) (turned (branch_output taps outs s' b' j))
  unfolding branch_output
  same_cost s s' j b b' turned same = elim (cases_lt j outs) [
    | inl lt ↦
        let t : nat_lt j outs ≡ true = lt-ltb j outs lt in
        rw t (ap (cost (get_or values j (pos 0))) (same lt))
    | inr ge ↦
        rw (past j ge) (no_cost (cond (nat_lt j outs) (edge taps s b (j + 1)) false) ∙ sym (no_cost (turned (cond (nat_lt j outs) (edge taps s' b' (j + 1)) false))))
  ]

  taps_at : (j : ℕ) → j < outs → (taps (j + 1) 0 ≡ true) × (taps (j + 1) 4 ≡ true)
  unfolding IsPaired
  taps_at j h = paired (j + 1) (omega arith) (omega arith)

  pub cost_even_one : (k j : ℕ) → cost (get_or values j (pos 0)) (branch_output taps outs (2 * k) true j) ≡ cost (get_or values j (pos 0)) (not (branch_output taps outs (2 * k) false j))
  cost_even_one k j = same_cost (2 * k) (2 * k) j true false not (λ h. even_turned taps (j + 1) k (taps_at j h).0 (taps_at j h).1)

  pub cost_odd_zero : (k j : ℕ) → cost (get_or values j (pos 0)) (branch_output taps outs (2 * k + 1) false j) ≡ cost (get_or values j (pos 0)) (not (branch_output taps outs (2 * k) false j))
  cost_odd_zero k j = same_cost (2 * k + 1) (2 * k) j false false not (λ h. odd_turned taps (j + 1) k (taps_at j h).0 (taps_at j h).1)

  pub cost_odd_one : (k j : ℕ) → cost (get_or values j (pos 0)) (branch_output taps outs (2 * k + 1) true j) ≡ cost (get_or values j (pos 0)) (branch_output taps outs (2 * k) false j)
  cost_odd_one k j = same_cost (2 * k + 1) (2 * k) j true false (λ b. b) (λ h. odd_same taps (j + 1) k (taps_at j h).0 (taps_at j h).1)

-- masks
mask_told : (m : ℕ) (b : Bool) → m ≡ mask_of b → cond (eqb m 0) false true ≡ b
unfolding mask_of
mask_told m true e = ap (λ m. cond (eqb m 0) false true) e
mask_told m false e = ap (λ m. cond (eqb m 0) false true) e

module _ (taps : ℕ → ℕ → Bool) (outs : ℕ) (labels : Labels) (has : HasMasks taps outs labels) where
  pub masked_is : (j i : ℕ) → j < 4 → i < 8 → is_masked labels.masks j i ≡ branch_output taps outs (2 * i) false j
  unfolding HasMasks is_masked
  masked_is j i hj hi = mask_told (get_or (get_or labels.masks j []) i 0) (branch_output taps outs (2 * i) false j) (has j i hj hi)

  pub are_masks : AreMasks labels.masks
  unfolding AreMasks HasMasks
  are_masks j i hj hi = has j i hj hi ∙ ap mask_of (sym (masked_is j i hj hi))

-- the costs of the branches by those of a mask
module _ (p : CodePlan) (wide values : List ℤ) (labels : Labels) (t : ℕ) (few : p.outs ≤ 4) (step : IsStep p.outs wide t values) (has : HasMasks p.taps p.outs labels) where
  pub masked_is_step : (i : ℕ) → i < 8 → masked_cost labels.masks values i ≡ step_cost p wide t (2 * i) false
  unfolding masked_cost
  masked_is_step i h =
      rw (
        masked_is p.taps p.outs labels has 0 i (omega arith) h,
        masked_is p.taps p.outs labels has 1 i (omega arith) h,
        masked_is p.taps p.outs labels has 2 i (omega arith) h,
        masked_is p.taps p.outs labels has 3 i (omega arith) h,
      )
      (four_outputs p wide values t (2 * i) false few step)

  module _ (paired : IsPaired p.taps p.outs) where
    pub odd_one_is_step : (i : ℕ) → i < 8 → masked_cost labels.masks values i ≡ step_cost p wide t (2 * i + 1) true
    unfolding masked_cost
    odd_one_is_step i h =
        rw (
          masked_is p.taps p.outs labels has 0 i (omega arith) h,
          masked_is p.taps p.outs labels has 1 i (omega arith) h,
          masked_is p.taps p.outs labels has 2 i (omega arith) h,
          masked_is p.taps p.outs labels has 3 i (omega arith) h,
        )
        (let e = cost_odd_one p.taps p.outs values paired step.past i in
        omega (arith, e 0, e 1, e 2, e 3, four_outputs p wide values t (2 * i + 1) true few step))

    pub even_one_is_step : (i : ℕ) → i < 8 → turned_cost labels.masks values i ≡ step_cost p wide t (2 * i) true
    unfolding turned_cost
    even_one_is_step i h =
        rw (
          masked_is p.taps p.outs labels has 0 i (omega arith) h,
          masked_is p.taps p.outs labels has 1 i (omega arith) h,
          masked_is p.taps p.outs labels has 2 i (omega arith) h,
          masked_is p.taps p.outs labels has 3 i (omega arith) h,
        )
        (let e = cost_even_one p.taps p.outs values paired step.past i in
        omega (arith, e 0, e 1, e 2, e 3, four_outputs p wide values t (2 * i) true few step))

    pub odd_zero_is_step : (i : ℕ) → i < 8 → turned_cost labels.masks values i ≡ step_cost p wide t (2 * i + 1) false
    unfolding turned_cost
    odd_zero_is_step i h =
        rw (
          masked_is p.taps p.outs labels has 0 i (omega arith) h,
          masked_is p.taps p.outs labels has 1 i (omega arith) h,
          masked_is p.taps p.outs labels has 2 i (omega arith) h,
          masked_is p.taps p.outs labels has 3 i (omega arith) h,
        )
        (let e = cost_odd_zero p.taps p.outs values paired step.past i in
        omega (arith, e 0, e 1, e 2, e 3, four_outputs p wide values t (2 * i + 1) false few step))

-- the digits of a label are its outputs
number_small : (b : Bool) → bit_number b ≤ 1
number_small true = omega arith
number_small false = omega arith

is_one : (n : ℕ) (b : Bool) → n ≡ bit_number b → eqb n 1 ≡ b
is_one n true e = ap (λ n. eqb n 1) e
is_one n false e = ap (λ n. eqb n 1) e

module _ (a b c d : Bool) where
  digit_eight : number_of a b c d / 8 % 2 ≡ bit_number a
  unfolding number_of
  digit_eight = omega (arith, number_small a, number_small b, number_small c, number_small d)

  digit_four : number_of a b c d / 4 % 2 ≡ bit_number b
  unfolding number_of
  digit_four = omega (arith, number_small a, number_small b, number_small c, number_small d)

  digit_two : number_of a b c d / 2 % 2 ≡ bit_number c
  unfolding number_of
  digit_two = omega (arith, number_small a, number_small b, number_small c, number_small d)

  digit_one : number_of a b c d / 1 % 2 ≡ bit_number d
  unfolding number_of
  digit_one = omega (arith, number_small a, number_small b, number_small c, number_small d)

-- the masks that are made of the labels
module _ (taps : ℕ → ℕ → Bool) (outs : ℕ) (zero_labels : List ℕ) (are : AreLabels taps outs false zero_labels) where
  label_here : (i : ℕ) → i < 8 → get_or zero_labels (2 * i) 0
      ≡ number_of (branch_output taps outs (2 * i) false 0) (branch_output taps outs (2 * i) false 1) (branch_output taps outs (2 * i) false 2) (branch_output taps outs (2 * i) false 3)
  unfolding AreLabels branch_label
  label_here i h = are (2 * i) (omega arith)

  module _ (i : ℕ) (h : i < 8) where
    o : ℕ → Bool
    o j = branch_output taps outs (2 * i) false j

    pub mask_eight : mask_of (eqb (get_or zero_labels (2 * i) 0 / 8 % 2) 1) ≡ mask_of (branch_output taps outs (2 * i) false 0)
    unfolding o
    mask_eight = ap mask_of (is_one _ (o 0) (ap (λ n. n / 8 % 2) (label_here i h) ∙ digit_eight (o 0) (o 1) (o 2) (o 3)))

    pub mask_four : mask_of (eqb (get_or zero_labels (2 * i) 0 / 4 % 2) 1) ≡ mask_of (branch_output taps outs (2 * i) false 1)
    unfolding o
    mask_four = ap mask_of (is_one _ (o 1) (ap (λ n. n / 4 % 2) (label_here i h) ∙ digit_four (o 0) (o 1) (o 2) (o 3)))

    pub mask_two : mask_of (eqb (get_or zero_labels (2 * i) 0 / 2 % 2) 1) ≡ mask_of (branch_output taps outs (2 * i) false 2)
    unfolding o
    mask_two = ap mask_of (is_one _ (o 2) (ap (λ n. n / 2 % 2) (label_here i h) ∙ digit_two (o 0) (o 1) (o 2) (o 3)))

    pub mask_one : mask_of (eqb (get_or zero_labels (2 * i) 0 / 1 % 2) 1) ≡ mask_of (branch_output taps outs (2 * i) false 3)
    unfolding o
    mask_one = ap mask_of (is_one _ (o 3) (ap (λ n. n / 1 % 2) (label_here i h) ∙ digit_one (o 0) (o 1) (o 2) (o 3)))

  -- the masks by their weights
  pub by_weights : (all : List (List ℕ)) →
      ((i : ℕ) → i < 8 → get_or (get_or all 0 []) i 0 ≡ mask_of (eqb (get_or zero_labels (2 * i) 0 / 8 % 2) 1)) →
      ((i : ℕ) → i < 8 → get_or (get_or all 1 []) i 0 ≡ mask_of (eqb (get_or zero_labels (2 * i) 0 / 4 % 2) 1)) →
      ((i : ℕ) → i < 8 → get_or (get_or all 2 []) i 0 ≡ mask_of (eqb (get_or zero_labels (2 * i) 0 / 2 % 2) 1)) →
      ((i : ℕ) → i < 8 → get_or (get_or all 3 []) i 0 ≡ mask_of (eqb (get_or zero_labels (2 * i) 0 / 1 % 2) 1)) →
      (j i : ℕ) → j < 4 → i < 8 → get_or (get_or all j []) i 0 ≡ mask_of (branch_output taps outs (2 * i) false j)
  by_weights all m0 m1 m2 m3 zero i hj hi = m0 i hi ∙ mask_eight i hi
  by_weights all m0 m1 m2 m3 (suc zero) i hj hi = m1 i hi ∙ mask_four i hi
  by_weights all m0 m1 m2 m3 (suc (suc zero)) i hj hi = m2 i hi ∙ mask_two i hi
  by_weights all m0 m1 m2 m3 (suc (suc (suc zero))) i hj hi = m3 i hi ∙ mask_one i hi
  by_weights all m0 m1 m2 m3 (suc (suc (suc (suc j)))) i hj hi = absurd (omega arith)
