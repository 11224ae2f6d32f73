-- Steps of the trellis: the bits that a message takes, the states that it passes, and continuations.
use Prim.Native.Nat.{zero, suc}
use Rattle.std.proofs.Common.{◌≡◌, ℕ, ◌+◌, ◌-◌, ◌<◌, ◌≤◌, Bool, true, false, List, [], ◌∷◌, ◌++◌, replicate, length, length-append, nat_lt, arith, refl, sym, ◌∙◌}
use Rattle.std.proofs.lemmas.List.{get_or_past}
use Rattle.std.proofs.lemmas.Bool.{lt-ltb}
use Rattle.tetra_bits.specs.Order.{bit_at}
use Rattle.tetra_mother.specs.Mother.{bit_back, next_state, state_before}
use Rattle.tetra_mother.specs.lemmas.States.{next_is_state, state_first, state_small}
use Rattle.tetra_puncture.specs.Plan.{CodePlan, tailed}
use Rattle.tetra_puncture.specs.Trellis.{IsAllowed, IsContinuation, bit_taken, state_passed}

-- the tail bits change no bit
tail_is_zero : (m : List Bool) (k : ℕ) → bit_at (m ++ replicate 4 false) k ≡ bit_at m k
tail_is_zero [] zero = refl
tail_is_zero [] (suc zero) = refl
tail_is_zero [] (suc (suc zero)) = refl
tail_is_zero [] (suc (suc (suc zero))) = refl
tail_is_zero [] (suc (suc (suc (suc k)))) = refl
tail_is_zero (b ∷ m) zero = refl
tail_is_zero (b ∷ m) (suc k) = tail_is_zero m k

pub bit_taken_is : (m : List Bool) (t : ℕ) → bit_taken m t ≡ bit_at m t
unfolding bit_taken tailed
bit_taken_is m t = tail_is_zero m t

pub bit_taken_tail : (m : List Bool) (t : ℕ) → length m ≤ t → bit_taken m t ≡ false
bit_taken_tail m t h = bit_taken_is m t ∙ get_or_past m t false h

pub length-tailed : (m : List Bool) → length (tailed m) ≡ length m + 4
unfolding tailed
length-tailed m = length-append m (replicate 4 false)

-- the bit of a step, which the mother code counts from 1
pub bit_taken_back : (m : List Bool) (t : ℕ) → bit_taken m t ≡ bit_back (tailed m) (t + 1) 0
unfolding bit_taken
bit_taken_back m t =
    let lt : nat_lt 0 (t + 1) ≡ true = lt-ltb 0 (t + 1) (omega arith) in
    let e : t + 1 - 0 - 1 ≡ t = omega arith in
    rw (lt, e) refl

pub state_passed_first : (m : List Bool) → state_passed m 0 ≡ 0
unfolding state_passed
state_passed_first m = state_first (tailed m)

pub state_passed_more : (m : List Bool) (t : ℕ) → state_passed m (t + 1) ≡ next_state (state_passed m t) (bit_taken m t)
unfolding state_passed
state_passed_more m t = sym (next_is_state (tailed m) (t + 1) (state_before (tailed m) (t + 1)) (bit_taken m t) refl (bit_taken_back m t))

pub state_passed_small : (m : List Bool) (t : ℕ) → state_passed m t < 16
unfolding state_passed
state_passed_small m t = state_small (tailed m) (t + 1)

-- a state comes from the bits before it alone
pub state_passed_same : (m n : List Bool) (t : ℕ) → ((k : ℕ) → k < t → bit_at m k ≡ bit_at n k) → state_passed m t ≡ state_passed n t
state_passed_same m n zero same = state_passed_first m ∙ sym (state_passed_first n)
state_passed_same m n (suc t) same =
    let more : suc t ≡ t + 1 = omega arith in
    let e : state_passed m t ≡ state_passed n t = state_passed_same m n t (λ k h. same k (omega arith)) in
    let f : bit_taken m t ≡ bit_taken n t = bit_taken_is m t ∙ same t (omega arith) ∙ sym (bit_taken_is n t) in
    rw more (state_passed_more m t ∙ rw (e, f) (sym (state_passed_more n t)))

-- the continuation behind a first bit
pub behind_first : (p : CodePlan) (t : ℕ) (b : Bool) (bits : List Bool) → IsContinuation p t (b ∷ bits) → IsContinuation p (t + 1) bits
behind_first p t b bits c = record {
  to_the_end = omega (arith, c.to_the_end);
  zeros = λ k h. c.zeros (suc k) (omega arith);
}

pub first_allowed : (p : CodePlan) (t : ℕ) (b : Bool) (bits : List Bool) → IsContinuation p t (b ∷ bits) → IsAllowed p t b
unfolding IsAllowed
first_allowed p t b bits c is_one = before (t + 4) p.steps (λ h. not_both b is_one (c.zeros 0 (omega arith)))
  where
    not_both : (b : Bool) → b ≡ true → b ≡ false → ⊥
    not_both b e f = cc

    before : (x y : ℕ) → (y ≤ x → ⊥) → x < y
    before x y h = omega arith

-- a bit in front of a continuation
pub in_front : (p : CodePlan) (t : ℕ) (b : Bool) (bits : List Bool) → t < p.steps → IsAllowed p t b → IsContinuation p (t + 1) bits → IsContinuation p t (b ∷ bits)
unfolding IsAllowed
in_front p t b bits inside allowed c = record {
  to_the_end = omega (arith, c.to_the_end);
  zeros = at;
}
  where
    not_true : (b : Bool) → (b ≡ true → ⊥) → b ≡ false
    not_true true h = absurd (h refl)
    not_true false h = refl

    at : (k : ℕ) → p.steps ≤ t + k + 4 → bit_at (b ∷ bits) k ≡ false
    at zero h = not_true b (λ e. let lt : t + 4 < p.steps = allowed e in omega arith)
    at (suc k) h = c.zeros k (omega arith)
