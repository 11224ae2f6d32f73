-- Labels and their costs.
use Prim.Native.Nat.{zero, suc}
use Rattle.std.proofs.Common.{◌≡◌, ℕ, ◌+◌, ◌-◌, ◌*◌, ◌/◌, ◌%◌, ◌<◌, ◌≤◌, inl, inr, Bool, true, false, nat_lt, List, [], ◌∷◌, length, get_or, ℤ, pos, arith, refl, ap, ◌∙◌, ◌≢◌, set, get_or-set_other, get_or-set_same, FitsSigned, w16, rules}
use Rattle.std.proofs.lemmas.Bool.{lt-ltb, le-ltb, cases_lt}
use Rattle.tetra_bits.specs.Cost.{cost}
use Rattle.tetra_bits.specs.Sums.{bit_number, sum_below}
use Rattle.tetra_bits.specs.Soft.{IsSoft}
use Rattle.tetra_bits.specs.lemmas.Signs.{sum_same}
use Rattle.tetra_mother.specs.Mother.{edge}
use Rattle.tetra_puncture.specs.Plan.{CodePlan}
use Rattle.tetra_puncture.specs.Trellis.{output_cost, step_cost}
use Rattle.tetra_puncture.specs.Labels.{number_of, branch_output, branch_label, label_at, HasLabels, IsStep, AreCosts}
use Rattle.tetra_puncture.specs.declared.branches.Labels.{Labels}

-- the outputs of a branch, and false past the last
pub outputs_are : (taps : ℕ → ℕ → Bool) (outs s : ℕ) (b : Bool) (all : List Bool) →
    ((i : ℕ) → 1 ≤ i → i ≤ outs → get_or all (i - 1) false ≡ edge taps s b i) →
    ((i : ℕ) → outs < i → get_or all (i - 1) false ≡ false) →
    (i : ℕ) → get_or all i false ≡ branch_output taps outs s b i
unfolding branch_output
outputs_are taps outs s b all is rest i =
    let back : i ≡ i + 1 - 1 = omega arith in
    elim (cases_lt i outs) [
      | inl lt ↦ let t : nat_lt i outs ≡ true = lt-ltb i outs lt in
          rw t (ap (λ k. get_or all k false) back ∙ is (i + 1) (omega arith) (omega arith))
      | inr ge ↦ let t : nat_lt i outs ≡ false = le-ltb i outs ge in
          rw t (ap (λ k. get_or all k false) back ∙ rest (i + 1) (omega arith))
    ]

pub label_is : (taps : ℕ → ℕ → Bool) (outs s : ℕ) (b : Bool) (all : List Bool) →
    ((i : ℕ) → get_or all i false ≡ branch_output taps outs s b i) →
    number_of (get_or all 0 false) (get_or all 1 false) (get_or all 2 false) (get_or all 3 false) ≡ branch_label taps outs s b
unfolding branch_label
label_is taps outs s b all is = rw (is 0, is 1, is 2, is 3) refl

number_small : (b : Bool) → bit_number b ≤ 1
number_small true = omega arith
number_small false = omega arith

pub label_small : (taps : ℕ → ℕ → Bool) (outs s : ℕ) (b : Bool) → branch_label taps outs s b < 16
unfolding branch_label number_of
label_small taps outs s b =
    omega (
      arith,
      number_small (branch_output taps outs s b 0),
      number_small (branch_output taps outs s b 1),
      number_small (branch_output taps outs s b 2),
      number_small (branch_output taps outs s b 3),
    )

pub labels_small : (taps : ℕ → ℕ → Bool) (outs : ℕ) (labels : Labels) → HasLabels taps outs labels → (s : ℕ) (b : Bool) → s < 16 → label_at labels s b < 16
unfolding HasLabels
labels_small taps outs labels are s b h = omega (arith, are s b h, label_small taps outs s b)

-- the costs of all labels from those of pairs
pub pairs_are_costs : (values : List ℤ) (first second costs : List ℕ) →
    first ≡ (cost (get_or values 0 (pos 0)) false + cost (get_or values 1 (pos 0)) false) ∷ (cost (get_or values 0 (pos 0)) false + cost (get_or values 1 (pos 0)) true) ∷ (cost (get_or values 0 (pos 0)) true + cost (get_or values 1 (pos 0)) false) ∷ (cost (get_or values 0 (pos 0)) true + cost (get_or values 1 (pos 0)) true) ∷ [] →
    second ≡ (cost (get_or values 2 (pos 0)) false + cost (get_or values 3 (pos 0)) false) ∷ (cost (get_or values 2 (pos 0)) false + cost (get_or values 3 (pos 0)) true) ∷ (cost (get_or values 2 (pos 0)) true + cost (get_or values 3 (pos 0)) false) ∷ (cost (get_or values 2 (pos 0)) true + cost (get_or values 3 (pos 0)) true) ∷ [] →
    ((k : ℕ) → k < 16 → get_or costs k 0 ≡ get_or first (k / 4) 0 + get_or second (k % 4) 0) → AreCosts values costs
unfolding AreCosts number_of
pairs_are_costs values first second costs f s made = at
  where
    at : (a b c d : Bool) → get_or costs (8 * bit_number a + 4 * bit_number b + 2 * bit_number c + bit_number d) 0
        ≡ cost (get_or values 0 (pos 0)) a + cost (get_or values 1 (pos 0)) b + cost (get_or values 2 (pos 0)) c + cost (get_or values 3 (pos 0)) d
    at false false false false = made 0 (omega arith) ∙ rw (f, s) (omega arith)
    at false false false true = made 1 (omega arith) ∙ rw (f, s) (omega arith)
    at false false true false = made 2 (omega arith) ∙ rw (f, s) (omega arith)
    at false false true true = made 3 (omega arith) ∙ rw (f, s) (omega arith)
    at false true false false = made 4 (omega arith) ∙ rw (f, s) (omega arith)
    at false true false true = made 5 (omega arith) ∙ rw (f, s) (omega arith)
    at false true true false = made 6 (omega arith) ∙ rw (f, s) (omega arith)
    at false true true true = made 7 (omega arith) ∙ rw (f, s) (omega arith)
    at true false false false = made 8 (omega arith) ∙ rw (f, s) (omega arith)
    at true false false true = made 9 (omega arith) ∙ rw (f, s) (omega arith)
    at true false true false = made 10 (omega arith) ∙ rw (f, s) (omega arith)
    at true false true true = made 11 (omega arith) ∙ rw (f, s) (omega arith)
    at true true false false = made 12 (omega arith) ∙ rw (f, s) (omega arith)
    at true true false true = made 13 (omega arith) ∙ rw (f, s) (omega arith)
    at true true true false = made 14 (omega arith) ∙ rw (f, s) (omega arith)
    at true true true true = made 15 (omega arith) ∙ rw (f, s) (omega arith)

no_cost : (b : Bool) → cost (pos 0) b ≡ 0
unfolding cost
no_cost true = refl
no_cost false = refl

-- the cost of output i of a branch, 0 past the last
unfoldable padded_cost : (ℕ → ℕ → Bool) → ℕ → List ℤ → ℕ → Bool → ℕ → ℕ
padded_cost taps outs values s b i = cost (get_or values i (pos 0)) (branch_output taps outs s b i)

padded_past : (taps : ℕ → ℕ → Bool) (outs : ℕ) (wide values : List ℤ) (t s : ℕ) (b : Bool) → IsStep outs wide t values → (i : ℕ) → outs ≤ i → padded_cost taps outs values s b i ≡ 0
unfolding padded_cost
padded_past taps outs wide values t s b step i h = rw (step.past i h) (no_cost (branch_output taps outs s b i))

padded_within : (p : CodePlan) (wide values : List ℤ) (t s : ℕ) (b : Bool) → IsStep p.outs wide t values → (i : ℕ) → i < p.outs → padded_cost p.taps p.outs values s b i ≡ output_cost p wide t s b i
unfolding padded_cost output_cost branch_output
padded_within p wide values t s b step i h =
    let lt : nat_lt i p.outs ≡ true = lt-ltb i p.outs h in
    rw (lt, step.within i h) refl

-- terms that are 0 add nothing
sum_past : (n m : ℕ) (f : ℕ → ℕ) → n ≤ m → ((i : ℕ) → n ≤ i → f i ≡ 0) → sum_below m f ≡ sum_below n f
unfolding sum_below
sum_past zero zero f h none = refl
sum_past (suc n) zero f h none = absurd (omega arith)
sum_past n (suc m) f h none = elim (cases_lt m n) [
  | inl lt ↦ let e : n ≡ suc m = omega arith in rw e refl
  | inr ge ↦ let last : f m ≡ 0 = none m ge in
      let rest : sum_below m f ≡ sum_below n f = sum_past n m f ge none in
      omega arith
]

-- the costs of four outputs are those of the step
pub four_outputs : (p : CodePlan) (wide values : List ℤ) (t s : ℕ) (b : Bool) → p.outs ≤ 4 → IsStep p.outs wide t values →
    cost (get_or values 0 (pos 0)) (branch_output p.taps p.outs s b 0) + cost (get_or values 1 (pos 0)) (branch_output p.taps p.outs s b 1)
    + cost (get_or values 2 (pos 0)) (branch_output p.taps p.outs s b 2) + cost (get_or values 3 (pos 0)) (branch_output p.taps p.outs s b 3)
    ≡ step_cost p wide t s b
unfolding step_cost padded_cost sum_below
four_outputs p wide values t s b few step =
    let four : sum_below 4 (padded_cost p.taps p.outs values s b) ≡ sum_below p.outs (padded_cost p.taps p.outs values s b) =
    sum_past p.outs 4 (padded_cost p.taps p.outs values s b) few (padded_past p.taps p.outs wide values t s b step) in
    let same : sum_below p.outs (padded_cost p.taps p.outs values s b) ≡ sum_below p.outs (output_cost p wide t s b) =
    sum_same p.outs (padded_cost p.taps p.outs values s b) (output_cost p wide t s b) (padded_within p wide values t s b step) in
    omega (arith, four, same)

-- the cost of a label is that of the step
pub cost_of_label : (p : CodePlan) (wide values : List ℤ) (costs : List ℕ) (labels : Labels) (t s : ℕ) (b : Bool) → p.outs ≤ 4 →
    IsStep p.outs wide t values → AreCosts values costs → HasLabels p.taps p.outs labels → s < 16 →
    get_or costs (label_at labels s b) 0 ≡ step_cost p wide t s b
unfolding AreCosts HasLabels branch_label
cost_of_label p wide values costs labels t s b few step are labelled small =
    ap (λ k. get_or costs k 0) (labelled s b small)
    ∙ are (branch_output p.taps p.outs s b 0) (branch_output p.taps p.outs s b 1) (branch_output p.taps p.outs s b 2) (branch_output p.taps p.outs s b 3)
    ∙ four_outputs p wide values t s b few step

-- one more entry of a list is written
pub one_more : (f : ℕ → ℕ) (xs : List ℕ) (n i v : ℕ) → i ≡ n → n < length xs → ((s : ℕ) → s < n → get_or xs s 0 ≡ f s) → v ≡ f n →
    (s : ℕ) → s < n + 1 → get_or (set xs i v) s 0 ≡ f s
one_more f xs n i v e within made here s h = elim (cases_lt s n) [
  | inl lt ↦ let ne : s ≢ i = omega arith in let o : get_or (set xs i v) s 0 ≡ get_or xs s 0 = rw get_or-set_other refl in o ∙ made s lt
  | inr ge ↦
      let same : s ≡ i = omega arith in
      let inside : i < length xs = omega arith in
      let o : get_or (set xs i v) i 0 ≡ v = rw get_or-set_same refl in
      ap (λ k. get_or (set xs i v) k 0) same ∙ o ∙ here ∙ ap f (let back : n ≡ s = omega arith in back)
]

pub soft_fits : (v : ℤ) → IsSoft v → FitsSigned w16 v
soft_fits v soft = search (rules, soft)
