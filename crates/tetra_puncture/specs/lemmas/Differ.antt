-- Different messages have different words, where the first output of each step is sent, or the first two of the next.
use Prim.Native.Nat.{zero, suc}
use Rattle.std.proofs.Common.{ℕ, ◌+◌, ◌-◌, ◌*◌, ◌/◌, ◌%◌, ◌<◌, ◌≤◌, ◌≡◌, Bool, true, false, ◌&&◌, List, get_or, replicate, arith, refl, ap, sym, ◌∙◌, lit≤, ◌⊎◌, inl, inr}
use Rattle.std.proofs.lemmas.List.{ext_get_or, get_or_append_left}
use Rattle.std.specs.Prelude.{nat_lt}
use Rattle.std.proofs.lemmas.Bool.{lt-ltb, le-ltb, cases_lt}
use Rattle.std.proofs.lemmas.Nat.{div-mul-add, mod-mul-add}
use Rattle.tetra_mother.specs.Mother.{output, term, add2, bit_back, sum2, mother_bit}
use Rattle.tetra_bits.specs.Numbered.{get_or-numbered}
use Rattle.tetra_puncture.specs.Plan.{CodePlan, sent_bit, word, tailed, WordsDiffer}

cancel_left : (x y t u : Bool) → x ≡ y → add2 x t ≡ add2 y u → t ≡ u
cancel_left true true true true e h = refl
cancel_left true true false false e h = refl
cancel_left true true true false e h = cc
cancel_left true true false true e h = cc
cancel_left false false t u e h = h
cancel_left true false t u e h = cc
cancel_left false true t u e h = cc

cancel_right : (x y t u : Bool) → t ≡ u → add2 x t ≡ add2 y u → x ≡ y
cancel_right true true t u e h = refl
cancel_right false false t u e h = refl
cancel_right true false true u e h = cc
cancel_right true false false u e h = cc
cancel_right false true true u e h = cc
cancel_right false true false u e h = cc

and_true : (x : Bool) → (x && true) ≡ x
and_true true = refl
and_true false = refl

-- an earlier bit is the same
earlier : (a b : List Bool) (n j : ℕ) → 1 ≤ j → ((k : ℕ) → k < n → get_or a k false ≡ get_or b k false)
    → bit_back a (n + 1) j ≡ bit_back b (n + 1) j
earlier a b n j one same =
    elim (cases_lt j (n + 1)) [
      | inl lt ↦ let t : nat_lt j (n + 1) ≡ true = lt-ltb j (n + 1) lt in
          rw t (same (n + 1 - j - 1) (omega arith))
      | inr le ↦ let t : nat_lt j (n + 1) ≡ false = le-ltb j (n + 1) le in rw t
    ]

earlier_two : (a b : List Bool) (n j : ℕ) → 2 ≤ j → ((k : ℕ) → k < n → get_or a k false ≡ get_or b k false)
    → bit_back a (n + 1 + 1) j ≡ bit_back b (n + 1 + 1) j
earlier_two a b n j one same =
    elim (cases_lt j (n + 1 + 1)) [
      | inl lt ↦ let t : nat_lt j (n + 1 + 1) ≡ true = lt-ltb j (n + 1 + 1) lt in
          rw t (same (n + 1 + 1 - j - 1) (omega arith))
      | inr le ↦ let t : nat_lt j (n + 1 + 1) ≡ false = le-ltb j (n + 1 + 1) le in rw t
    ]

one_back : (a : List Bool) (n : ℕ) → bit_back a (n + 1 + 1) 1 ≡ get_or a n false
one_back a n =
    let t : nat_lt 1 (n + 1 + 1) ≡ true = lt-ltb 1 (n + 1 + 1) (omega arith) in
    let e : n + 1 + 1 - 1 - 1 ≡ n = omega arith in
    rw t (ap (λ k. get_or a k false) e)

and_false : (x : Bool) → (x && false) ≡ false
and_false true = refl
and_false false = refl

-- the bit of the step itself
now_term : (g : ℕ → ℕ → Bool) (a : List Bool) (n : ℕ) → g 1 0 ≡ true → term g a (n + 1) 1 0 ≡ get_or a n false
now_term g a n one =
    let t : nat_lt 0 (n + 1) ≡ true = lt-ltb 0 (n + 1) (omega arith) in
    let e : n + 1 - 0 - 1 ≡ n = omega arith in
    rw (one, t) (and_true (get_or a (n + 1 - 0 - 1) false) ∙ ap (λ k. get_or a k false) e)

back_term : (g : ℕ → ℕ → Bool) (a : List Bool) (n : ℕ) → g 1 1 ≡ true → term g a (n + 1 + 1) 1 1 ≡ get_or a n false
back_term g a n one = rw one (and_true (bit_back a (n + 1 + 1) 1) ∙ one_back a n)

-- the parts of an output two steps on that are not the same yet
front_two : (g : ℕ → ℕ → Bool) (a b : List Bool) (n i : ℕ) → ((k : ℕ) → k < n → get_or a k false ≡ get_or b k false)
    → output g a (n + 1 + 1) i ≡ output g b (n + 1 + 1) i
    → sum2 (term g a (n + 1 + 1) i) 2 ≡ sum2 (term g b (n + 1 + 1) i) 2
unfolding output
front_two g a b n i same h =
    let t2 : term g a (n + 1 + 1) i 2 ≡ term g b (n + 1 + 1) i 2 =
    ap (λ x. x && g i 2) (earlier_two a b n 2 (lit≤ tt) same) in
    let t3 : term g a (n + 1 + 1) i 3 ≡ term g b (n + 1 + 1) i 3 =
    ap (λ x. x && g i 3) (earlier_two a b n 3 (lit≤ tt) same) in
    let t4 : term g a (n + 1 + 1) i 4 ≡ term g b (n + 1 + 1) i 4 =
    ap (λ x. x && g i 4) (earlier_two a b n 4 (lit≤ tt) same) in
    let h4 =
    cancel_right (sum2 (term g a (n + 1 + 1) i) 4) (sum2 (term g b (n + 1 + 1) i) 4)
    (term g a (n + 1 + 1) i 4) (term g b (n + 1 + 1) i 4) t4 h in
    let h3 =
    cancel_right (sum2 (term g a (n + 1 + 1) i) 3) (sum2 (term g b (n + 1 + 1) i) 3)
    (term g a (n + 1 + 1) i 3) (term g b (n + 1 + 1) i 3) t3 h4 in
    cancel_right (sum2 (term g a (n + 1 + 1) i) 2) (sum2 (term g b (n + 1 + 1) i) 2)
    (term g a (n + 1 + 1) i 2) (term g b (n + 1 + 1) i 2) t2 h3

-- two lists that agree before step n + 1 and have one first output there agree at it
pub first_output : (g : ℕ → ℕ → Bool) (a b : List Bool) (n : ℕ) → g 1 0 ≡ true
    → ((k : ℕ) → k < n → get_or a k false ≡ get_or b k false)
    → output g a (n + 1) 1 ≡ output g b (n + 1) 1 → get_or a n false ≡ get_or b n false
unfolding output
first_output g a b n one same h =
    let t1 : term g a (n + 1) 1 1 ≡ term g b (n + 1) 1 1 = ap (λ x. x && g 1 1) (earlier a b n 1 (lit≤ tt) same) in
    let t2 : term g a (n + 1) 1 2 ≡ term g b (n + 1) 1 2 = ap (λ x. x && g 1 2) (earlier a b n 2 (lit≤ tt) same) in
    let t3 : term g a (n + 1) 1 3 ≡ term g b (n + 1) 1 3 = ap (λ x. x && g 1 3) (earlier a b n 3 (lit≤ tt) same) in
    let t4 : term g a (n + 1) 1 4 ≡ term g b (n + 1) 1 4 = ap (λ x. x && g 1 4) (earlier a b n 4 (lit≤ tt) same) in
    let h4 =
    cancel_right (sum2 (term g a (n + 1) 1) 4) (sum2 (term g b (n + 1) 1) 4)
    (term g a (n + 1) 1 4) (term g b (n + 1) 1 4) t4 h in
    let h3 =
    cancel_right (sum2 (term g a (n + 1) 1) 3) (sum2 (term g b (n + 1) 1) 3)
    (term g a (n + 1) 1 3) (term g b (n + 1) 1 3) t3 h4 in
    let h2 =
    cancel_right (sum2 (term g a (n + 1) 1) 2) (sum2 (term g b (n + 1) 1) 2)
    (term g a (n + 1) 1 2) (term g b (n + 1) 1 2) t2 h3 in
    let h1 : term g a (n + 1) 1 0 ≡ term g b (n + 1) 1 0 =
    cancel_right (sum2 (term g a (n + 1) 1) 1) (sum2 (term g b (n + 1) 1) 1)
    (term g a (n + 1) 1 1) (term g b (n + 1) 1 1) t1 h2 in
    sym (now_term g a n one) ∙ h1 ∙ now_term g b n one

-- two lists that agree before step n + 1, and have one first and one second output one step later, agree at it
pub two_outputs : (g : ℕ → ℕ → Bool) (a b : List Bool) (n : ℕ)
    → g 1 0 ≡ true → g 1 1 ≡ true → g 2 0 ≡ true → g 2 1 ≡ false
    → ((k : ℕ) → k < n → get_or a k false ≡ get_or b k false)
    → output g a (n + 1 + 1) 1 ≡ output g b (n + 1 + 1) 1 → output g a (n + 1 + 1) 2 ≡ output g b (n + 1 + 1) 2
    → get_or a n false ≡ get_or b n false
two_outputs g a b n g10 g11 g20 g21 same h1 h2 =
    let s1 = front_two g a b n 1 same h1 in
    let s2 = front_two g a b n 2 same h2 in
    let z : term g a (n + 1 + 1) 2 1 ≡ term g b (n + 1 + 1) 2 1 =
    rw g21 (and_false (bit_back a (n + 1 + 1) 1) ∙ sym (and_false (bit_back b (n + 1 + 1) 1))) in
    let t0 : term g a (n + 1 + 1) 2 0 ≡ term g b (n + 1 + 1) 2 0 =
    cancel_right (term g a (n + 1 + 1) 2 0) (term g b (n + 1 + 1) 2 0)
    (term g a (n + 1 + 1) 2 1) (term g b (n + 1 + 1) 2 1) z s2 in
    let u0 : term g a (n + 1 + 1) 1 0 ≡ term g b (n + 1 + 1) 1 0 = rw (g10, ← g20) t0 in
    let t1 : term g a (n + 1 + 1) 1 1 ≡ term g b (n + 1 + 1) 1 1 =
    cancel_left (term g a (n + 1 + 1) 1 0) (term g b (n + 1 + 1) 1 0)
    (term g a (n + 1 + 1) 1 1) (term g b (n + 1 + 1) 1 1) u0 s1 in
    sym (back_term g a n g11) ∙ t1 ∙ back_term g b n g11

-- an output of a step as a bit of the mother word
pub output_place : (g : ℕ → ℕ → Bool) (bits : List Bool) (outs k i v : ℕ)
    → 1 ≤ i → i ≤ outs → v ≡ outs * k + i → mother_bit g outs bits v ≡ output g bits (k + 1) i
unfolding mother_bit
output_place g bits outs k i v a b e =
    let d : v - 1 ≡ k * outs + (i - 1) = omega arith in
    let q : (v - 1) / outs ≡ k = ap (λ x. x / outs) d ∙ div-mul-add k outs (i - 1) (omega arith) in
    let r : (v - 1) % outs ≡ i - 1 = ap (λ x. x % outs) d ∙ mod-mul-add k outs (i - 1) (omega arith) in
    let f : i - 1 + 1 ≡ i = omega arith in
    rw (q, r, f)

-- output i of the step k + 1 is sent
abbrev pub IsSent : CodePlan → ℕ → ℕ → Type 0
IsSent p k i = (j : ℕ) × (1 ≤ j) × (j ≤ p.sent) × (p.place j ≡ p.outs * k + i)

-- the first output of each step is sent, and takes the bit of the step
pub record KeepsFirst (p : CodePlan) : Type 0 where
  pub outs : 1 ≤ p.outs
  pub g10 : p.taps 1 0 ≡ true
  pub sent : (k : ℕ) → k < p.steps → IsSent p k 1

-- the first output of each step is sent, or the first two of the next step, of which the first takes the bit before
-- its own and the second does not
pub record KeepsFirstOrNext (p : CodePlan) : Type 0 where
  pub outs : 2 ≤ p.outs
  pub g10 : p.taps 1 0 ≡ true
  pub g11 : p.taps 1 1 ≡ true
  pub g20 : p.taps 2 0 ≡ true
  pub g21 : p.taps 2 1 ≡ false
  pub sent : (k : ℕ) → k < p.steps → IsSent p k 1 ⊎ ((k + 1 < p.steps) × IsSent p (k + 1) 1 × IsSent p (k + 1) 2)

-- an entry of the sent word
pub word_entry : (p : CodePlan) (m : List Bool) (k : ℕ) → k < p.sent → get_or (word p m) k false ≡ sent_bit p m (k + 1)
unfolding word
word_entry p m k h = get_or-numbered (sent_bit p m) p.sent k false h

same_sent_bit : (p : CodePlan) (m n : List Bool) (j : ℕ)
    → word p m ≡ word p n → 1 ≤ j → j ≤ p.sent → sent_bit p m j ≡ sent_bit p n j
same_sent_bit p m n j e a b =
    let back : j - 1 + 1 ≡ j = omega arith in
    ap (sent_bit p m) (sym back)
    ∙ sym (word_entry p m (j - 1) (omega arith))
    ∙ ap (λ xs. get_or xs (j - 1) false) e
    ∙ word_entry p n (j - 1) (omega arith)
    ∙ ap (sent_bit p n) back

same_output : (p : CodePlan) (m n : List Bool) (k i : ℕ) → 1 ≤ i → i ≤ p.outs → word p m ≡ word p n → IsSent p k i
    → output p.taps (tailed m) (k + 1) i ≡ output p.taps (tailed n) (k + 1) i
unfolding sent_bit
same_output p m n k i a b e w =
    sym (output_place p.taps (tailed m) p.outs k i (p.place w.0) a b w.3)
    ∙ same_sent_bit p m n w.0 e w.1 w.2
    ∙ output_place p.taps (tailed n) p.outs k i (p.place w.0) a b w.3

-- messages of one word that agree before a step agree at it
StepsAgree : CodePlan → Type 0
StepsAgree p = (m n : List Bool) (k : ℕ) → k < p.steps → word p m ≡ word p n
    → ((i : ℕ) → i < k → get_or (tailed m) i false ≡ get_or (tailed n) i false)
    → get_or (tailed m) k false ≡ get_or (tailed n) k false

agree : (p : CodePlan) (m n : List Bool) → StepsAgree p → word p m ≡ word p n
    → (c : ℕ) → c ≤ p.steps → (k : ℕ) → k < c → get_or (tailed m) k false ≡ get_or (tailed n) k false
unfolding StepsAgree
agree p m n step e zero l = λ k b. absurd (omega arith)
agree p m n step e (suc c) l =
    let before = agree p m n step e c (omega arith) in
    λ k b. elim (cases_lt k c) [
      | inl lt ↦ before k lt
      | inr ge ↦
          let same : k ≡ c = omega arith in
          rw same (step m n c (omega arith) e before)
    ]

steps_differ : (p : CodePlan) → StepsAgree p → WordsDiffer p
unfolding tailed
steps_differ p step m n im jn e =
    ext_get_or false m n (omega arith) (λ i l.
    sym (get_or_append_left m (replicate 4 false) false i l)
    ∙ agree p m n step e p.steps (omega arith) i (omega arith)
    ∙ get_or_append_left n (replicate 4 false) false i (omega arith))

first_differs : (p : CodePlan) → KeepsFirst p → StepsAgree p
unfolding StepsAgree
first_differs p keeps m n k l e before =
    first_output p.taps (tailed m) (tailed n) k keeps.g10 before
    (same_output p m n k 1 (lit≤ tt) keeps.outs e (keeps.sent k l))

next_differs : (p : CodePlan) → KeepsFirstOrNext p → StepsAgree p
unfolding StepsAgree
next_differs p keeps m n k l e before =
    elim (keeps.sent k l) [
      | inl one ↦ first_output p.taps (tailed m) (tailed n) k keeps.g10 before
          (same_output p m n k 1 (lit≤ tt) (omega (arith, keeps.outs)) e one)
      | inr two ↦ two_outputs p.taps (tailed m) (tailed n) k keeps.g10 keeps.g11 keeps.g20 keeps.g21 before
          (same_output p m n (k + 1) 1 (lit≤ tt) (omega (arith, keeps.outs)) e two.1)
          (same_output p m n (k + 1) 2 (lit≤ tt) keeps.outs e two.2)
    ]

-- where the first output of each step is sent
pub words_differ : (p : CodePlan) → KeepsFirst p → WordsDiffer p
words_differ p keeps = steps_differ p (first_differs p keeps)

-- where it is sent, or the first two of the next step
pub words_differ_next : (p : CodePlan) → KeepsFirstOrNext p → WordsDiffer p
words_differ_next p keeps = steps_differ p (next_differs p keeps)
