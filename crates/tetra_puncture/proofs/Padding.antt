-- The outputs of a mother code from the bits that go in, with zeros in front of them and behind.
use Rattle.std.proofs.Common.{ℕ, ◌+◌, ◌-◌, ◌*◌, ◌/◌, ◌%◌, ◌<◌, ◌≤◌, ◌≡◌, ◌≢◌, inl, inr, Bool, true, false, not, ◌&&◌, nat_lt, List, [], ◌∷◌, length, get_or, replicate, arith, refl, ap, sym, ◌∙◌}
use Rattle.std.specs.Prelude.{slice_set}
use Rattle.std.proofs.Math.Bool.{beq}
use Rattle.std.proofs.Math.Nat.{div-lt_iff_lt-mul}
use Rattle.std.proofs.lemmas.Nat.{mod_below}
use Rattle.std.proofs.lemmas.Bool.{cases_lt, lt-ltb, le-ltb}
use Rattle.std.proofs.lemmas.List.{get_or-set_same, get_or-set_other, get_or-replicate, get_or_past, get_or-append_right, get_or_append_left, length-replicate}
use Rattle.tetra_bits.specs.Order.{bit_at}
use Rattle.tetra_mother.specs.Mother.{add2, output, mother_bit}
use Rattle.tetra_puncture.specs.Plan.{CodePlan, tailed}
use Rattle.tetra_puncture.specs.Outputs.{IsPadded, AreOutputs, taps_sum}

-- no entry of a list of zeros is 1, nor is one behind it
pub zero_at : (n k : ℕ) → bit_at (replicate n false) k ≡ false
zero_at n k = elim (cases_lt k n) [
  | inl lt ↦ get_or-replicate n k false false lt
  | inr ge ↦ get_or_past (replicate n false) k false (omega (arith, length-replicate n false))
]

-- the first n bits stand behind four zeros
pub record IsPaddedTo (m bits : List Bool) (n : ℕ) : Type 0 where
  pub size : length bits ≡ 296
  pub front : (k : ℕ) → k < 4 → bit_at bits k ≡ false
  pub placed : (k : ℕ) → k < n → bit_at bits (k + 4) ≡ bit_at m k
  pub rest : (k : ℕ) → n ≤ k → bit_at bits (k + 4) ≡ false

pub padded_none : (m : List Bool) → IsPaddedTo m (replicate 296 false) 0
padded_none m =
    record {
      size = length-replicate 296 false;
      front = λ k h. zero_at 296 k;
      placed = λ k h. absurd (omega (arith, h));
      rest = λ k h. zero_at 296 (k + 4);
    }

pub padded_more : (m old new : List Bool) (n : ℕ) (b : Bool) → IsPaddedTo m old n → n + 4 < 296 → new ≡ slice_set old (n + 4) b → length new ≡ 296
    → b ≡ bit_at m n → IsPaddedTo m new (n + 1)
padded_more m old new n b before within en size eb =
    record {
      size = size;
      front = λ k h. other k (omega arith) ∙ before.front k h;
      placed = λ k h. elim (cases_lt k n) [
        | inl lt ↦ other (k + 4) (omega arith) ∙ before.placed k lt
        | inr ge ↦
            let here : k ≡ n = omega arith in
            rw here (ap (λ xs. get_or xs (n + 4) false) en ∙ get_or-set_same old (n + 4) b false (omega (arith, before.size)) ∙ eb)
      ];
      rest = λ k h. other (k + 4) (omega arith) ∙ before.rest k (omega arith);
    }
  where
    other : (k : ℕ) → k ≢ n + 4 → bit_at new k ≡ bit_at old k
    other k ne = ap (λ xs. get_or xs k false) en ∙ get_or-set_other old (n + 4) k b false (omega (arith, ne))

-- a bit of the message or of the zeros behind it
tailed_at : (m : List Bool) (k : ℕ) → (k < length m → bit_at (tailed m) k ≡ bit_at m k) × (length m ≤ k → bit_at (tailed m) k ≡ false)
unfolding tailed
tailed_at m k = (
  (λ h. get_or_append_left m (replicate 4 false) false k h),
  (λ h. get_or-append_right m (replicate 4 false) (length m) k false refl h ∙ zero_at 4 (k - length m)),
)

pub padded_all : (m bits : List Bool) (n : ℕ) → IsPaddedTo m bits n → n ≡ length m → IsPadded m bits
unfolding IsPadded
padded_all m bits n all e t j ht hj = elim (cases_lt j (t + 1)) [
  | inl lt ↦
      let test : nat_lt j (t + 1) ≡ true = lt-ltb j (t + 1) lt in
      let there : t + 4 - j ≡ t - j + 4 = omega arith in
      let back : t + 1 - j - 1 ≡ t - j = omega arith in
      rw (test, there, back) (elim (cases_lt (t - j) n) [
        | inl front ↦ all.placed (t - j) front ∙ sym ((tailed_at m (t - j)).0 (omega arith))
        | inr behind ↦ all.rest (t - j) behind ∙ sym ((tailed_at m (t - j)).1 (omega arith))
      ])
  | inr ge ↦
      let test : nat_lt j (t + 1) ≡ false = le-ltb j (t + 1) ge in
      rw test (all.front (t + 4 - j) (omega arith))
]

-- the sum of two bits as the code has it
as_sum : (a b : Bool) → not (beq a b) ≡ add2 a b
as_sum true true = refl
as_sum true false = refl
as_sum false true = refl
as_sum false false = refl

pub five : (a b c d e : Bool) → not (beq (not (beq (not (beq (not (beq a b)) c)) d)) e) ≡ add2 (add2 (add2 (add2 (add2 false a) b) c) d) e
five a b c d e = rw (as_sum a b, as_sum (add2 a b) c, as_sum (add2 (add2 a b) c) d, as_sum (add2 (add2 (add2 a b) c) d) e) refl

pub sum_is : (bits taps : List Bool) (t : ℕ) →
    not (beq (not (beq (not (beq (not (beq (bit_at bits (t + 4) && bit_at taps 0) (bit_at bits (t + 3) && bit_at taps 1))) (bit_at bits (t + 2) && bit_at taps 2))) (bit_at bits (t + 1) && bit_at taps 3))) (bit_at bits t && bit_at taps 4))
    ≡ taps_sum bits taps t
unfolding taps_sum
sum_is bits taps t =
    let o : t + 4 - 0 ≡ t + 4 = omega arith in
    let a : t + 4 - 1 ≡ t + 3 = omega arith in
    let b : t + 4 - 2 ≡ t + 2 = omega arith in
    let c : t + 4 - 3 ≡ t + 1 = omega arith in
    let d : t + 4 - 4 ≡ t = omega arith in
    five (bit_at bits (t + 4) && bit_at taps 0) (bit_at bits (t + 3) && bit_at taps 1) (bit_at bits (t + 2) && bit_at taps 2) (bit_at bits (t + 1) && bit_at taps 3) (bit_at bits t && bit_at taps 4)
    ∙ rw (o, a, b, c, d) refl

-- the sum over the taps of a generator is the output
pub sum_is_output : (g : ℕ → ℕ → Bool) (m bits : List Bool) (a b c d e : Bool) (i t : ℕ) → IsPadded m bits → t < 292
    → a ≡ g i 0 → b ≡ g i 1 → c ≡ g i 2 → d ≡ g i 3 → e ≡ g i 4
    → taps_sum bits (a ∷ b ∷ c ∷ d ∷ e ∷ []) t ≡ output g (tailed m) (t + 1) i
unfolding taps_sum output IsPadded
sum_is_output g m bits a b c d e i t p h ea eb ec ed ee =
    rw (ea, eb, ec, ed, ee, p t 0 h (omega arith), p t 1 h (omega arith), p t 2 h (omega arith), p t 3 h (omega arith), p t 4 h (omega arith)) refl

-- outputs one after the other
pub made_none : (taps : ℕ → ℕ → Bool) (m : List Bool) (all : List (List Bool)) → AreOutputs taps 0 m all
unfolding AreOutputs
made_none taps m all i t h k = absurd (omega (arith, h))

pub made_more : (taps : ℕ → ℕ → Bool) (m : List Bool) (old new : List (List Bool)) (row : List Bool) (n : ℕ) → AreOutputs taps n m old
    → n < length old → new ≡ slice_set old n row → ((t : ℕ) → t < 292 → bit_at row t ≡ output taps (tailed m) (t + 1) (n + 1)) → AreOutputs taps (n + 1) m new
unfolding AreOutputs
made_more taps m old new row n before within en here i t h k = elim (cases_lt i n) [
  | inl lt ↦ ap (λ xs. bit_at (get_or xs i []) t) en ∙ ap (λ xs. bit_at xs t) (get_or-set_other old n i row [] (omega arith)) ∙ before i t lt k
  | inr ge ↦
      let e : i ≡ n = omega arith in
      rw e (ap (λ xs. bit_at (get_or xs n []) t) en ∙ ap (λ xs. bit_at xs t) (get_or-set_same old n row [] within) ∙ here t k)
]

-- the bit at a place of the mother word
pub at_place : (p : CodePlan) (outs : ℕ) (all : List (List Bool)) (v : ℕ) → p.outs ≡ outs → 1 ≤ p.outs → p.steps ≤ 292 → 1 ≤ v → v ≤ p.outs * p.steps
    → (m : List Bool) → AreOutputs p.taps p.outs m all
    → bit_at (get_or all ((v - 1) % outs) []) ((v - 1) / outs) ≡ mother_bit p.taps p.outs (tailed m) v
unfolding AreOutputs mother_bit
at_place p outs all v eo some few first last m are =
    let low : (v - 1) % p.outs < p.outs = mod_below (v - 1) p.outs some in
    let within : v - 1 < p.steps * p.outs = omega (arith, first, last) in
    let step : (v - 1) / p.outs < p.steps = (div-lt_iff_lt-mul some).1 within in
    rw (← eo) (are ((v - 1) % p.outs) ((v - 1) / p.outs) low (omega (arith, step)))
