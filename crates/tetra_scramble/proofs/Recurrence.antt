-- The key as a function obeys the recurrence, and only one list does.
use Prim.Native.Nat.{zero, suc}
use Rattle.std.proofs.Common.{◌≡◌, ℕ, ◌+◌, ◌-◌, ◌<◌, ◌≤◌, inl, inr, Bool, true, false, nat_lt, cond, List, [], ◌∷◌, ◌++◌, length, arith, rules, refl, ap, sym, ◌∙◌}
use Rattle.std.proofs.Math.Nat.{eq-or-lt_of_le}
use Rattle.std.proofs.lemmas.Bool.{cases_lt, lt-ltb, le-ltb}
use Rattle.std.proofs.lemmas.List.{get_or_append_left, get_or-append_right, ext_get_or}
use Rattle.tetra_bits.specs.Numbered.{length-numbered, get_or-numbered}
use Rattle.tetra_bits.specs.Order.{bit_at}
use Rattle.tetra_scramble.specs.Key.{distances, sum2_over, bit_before, IsKey, past, key_bit, key_from, OnlyKey, KeyIsKey}

abbrev InReach : List ℕ → Type 0
InReach [] = Unit {0}
InReach (i ∷ is) = (1 ≤ i) × (i ≤ 32) × InReach is

in_reach : InReach distances
unfolding distances
in_reach = search rules

-- equal terms have equal sums
sum2_over-same : (is : List ℕ) (f g : ℕ → Bool) → InReach is → ((i : ℕ) → 1 ≤ i → i ≤ 32 → f i ≡ g i) → sum2_over is f ≡ sum2_over is g
unfolding sum2_over
sum2_over-same [] f g a e = refl
sum2_over-same (i ∷ is) f g a e = rw (e i a.0 a.1, sum2_over-same is f g a.2 e) refl

sum-same : (f g : ℕ → Bool) → ((i : ℕ) → 1 ≤ i → i ≤ 32 → f i ≡ g i) → sum2_over distances f ≡ sum2_over distances g
sum-same f g e = sum2_over-same distances f g in_reach e

-- a place of the past is a bit of the key
pub past_at : (e : List Bool) (m i : ℕ) → i ≤ m → bit_at (past e m) i ≡ key_bit e (m - i)
unfolding past key_bit
past_at e m zero h = let s : m - 0 ≡ m = omega arith in rw s refl
past_at e zero (suc i) h = absurd (omega arith)
past_at e (suc m) (suc i) h = past_at e m i (omega arith) ∙ ap (key_bit e) (omega arith)

-- or one of the bits before it
past_start : (e : List Bool) (m i : ℕ) → m ≤ i → bit_at (past e m) i ≡ bit_at (e ++ true ∷ true ∷ []) (i - m)
unfolding past
past_start e zero i h = let s : i - 0 ≡ i = omega arith in rw s refl
past_start e (suc m) zero h = absurd (omega arith)
past_start e (suc m) (suc i) h = past_start e m i (omega arith) ∙ ap (bit_at (e ++ true ∷ true ∷ [])) (omega arith)

ones_behind : (j : ℕ) → j < 2 → bit_at (true ∷ true ∷ []) j ≡ true
ones_behind zero h = refl
ones_behind (suc zero) h = refl
ones_behind (suc (suc j)) h = absurd (omega arith)

start_at : (e : List Bool) (j : ℕ) → length e ≡ 30 → j < 32 → bit_at (e ++ true ∷ true ∷ []) j ≡ cond (nat_lt j 30) (bit_at e j) true
start_at e j l h = elim (cases_lt j 30) [
  | inl lt ↦
      let t : nat_lt j 30 ≡ true = lt-ltb j 30 lt in
      rw t (get_or_append_left e (true ∷ true ∷ []) false j (omega arith))
  | inr ge ↦
      let t : nat_lt j 30 ≡ false = le-ltb j 30 ge in
      rw t (get_or-append_right e (true ∷ true ∷ []) 30 j false l ge ∙ ones_behind (j - 30) (omega arith))
]

key_entry : (e : List Bool) (k : ℕ) → k < 432 → bit_at (key_from e) k ≡ key_bit e (k + 1)
unfolding key_from
key_entry e k h = get_or-numbered (key_bit e) 432 k false h

-- the bit i before bit k = m + 1
before : (e : List Bool) (m i : ℕ) → length e ≡ 30 → m < 432 → 1 ≤ i → i ≤ 32 → bit_at (past e m) (i - 1) ≡ bit_before e (key_from e) (suc m) i
unfolding bit_before
before e m i l h g b = elim (cases_lt i (suc m)) [
  | inl lt ↦
      let t : nat_lt i (suc m) ≡ true = lt-ltb i (suc m) lt in
      rw t (past_at e m (i - 1) (omega arith) ∙ ap (key_bit e) (omega arith) ∙ sym (key_entry e (suc m - i - 1) (omega arith)))
  | inr ge ↦
      let t : nat_lt i (suc m) ≡ false = le-ltb i (suc m) ge in
      let j : i - 1 - m ≡ i - suc m = omega arith in
      rw t (past_start e m (i - 1) (omega arith) ∙ rw j (start_at e (i - suc m) l (omega arith)))
]

next_bit : (e : List Bool) (m : ℕ) → length e ≡ 30 → m < 432 → key_bit e (suc m) ≡ sum2_over distances (bit_before e (key_from e) (suc m))
unfolding key_bit past
next_bit e m l h = sum-same (λ i. bit_at (past e m) (i - 1)) (bit_before e (key_from e) (suc m)) (λ i a b. before e m i l h a b)

key_sums : (e : List Bool) → length e ≡ 30 → (k : ℕ) → 1 ≤ k → k ≤ 432 → bit_at (key_from e) (k - 1) ≡ sum2_over distances (bit_before e (key_from e) k)
key_sums e l zero g h = absurd (omega arith)
key_sums e l (suc m) g h =
    let s : suc m - 1 ≡ m = omega arith in
    let n : m + 1 ≡ suc m = omega arith in
    rw s (key_entry e m (omega arith) ∙ ap (key_bit e) n ∙ next_bit e m l (omega arith))

length-key_from : (e : List Bool) → length (key_from e) ≡ 432
unfolding key_from
length-key_from e = length-numbered (key_bit e) 432

pub key_is_key : KeyIsKey
key_is_key e l = record { size = length-key_from e; sums = key_sums e l }

-- a bit is given by those before it
same_before : (e a b : List Bool) (k i : ℕ) → 1 ≤ i → ((j : ℕ) → suc j < k → bit_at a j ≡ bit_at b j) → bit_before e a k i ≡ bit_before e b k i
unfolding bit_before
same_before e a b k i g h = elim (cases_lt i k) [
  | inl lt ↦ let t : nat_lt i k ≡ true = lt-ltb i k lt in rw t (h (k - i - 1) (omega arith))
  | inr ge ↦ let t : nat_lt i k ≡ false = le-ltb i k ge in rw t refl
]

agree : (e a b : List Bool) → IsKey e a → IsKey e b → (n : ℕ) → n ≤ 432 → (j : ℕ) → j < n → bit_at a j ≡ bit_at b j
agree e a b p q zero h j l = absurd (omega arith)
agree e a b p q (suc n) h j l =
    let below : (i : ℕ) → i < n → bit_at a i ≡ bit_at b i = agree e a b p q n (omega arith) in
    elim (eq-or-lt_of_le l) [
      | inl same ↦
          let at : j ≡ n = omega arith in
          let s : suc n - 1 ≡ n = omega arith in
          let pa : bit_at a (suc n - 1) ≡ sum2_over distances (bit_before e a (suc n)) = p.sums (suc n) (omega arith) h in
          let pb : bit_at b (suc n - 1) ≡ sum2_over distances (bit_before e b (suc n)) = q.sums (suc n) (omega arith) h in
          let sums : sum2_over distances (bit_before e a (suc n)) ≡ sum2_over distances (bit_before e b (suc n)) = sum-same (bit_before e a (suc n)) (bit_before e b (suc n)) (λ i g t. same_before e a b (suc n) i g (λ k m. below k (omega arith))) in
          rw at (rw s at (pa ∙ sums ∙ sym pb))
      | inr less ↦ below j (omega arith)
    ]

pub only_key : OnlyKey
only_key e key l p =
    let q : IsKey e (key_from e) = key_is_key e l in
    ext_get_or false key (key_from e) (p.size ∙ sym q.size) (λ j h. agree e key (key_from e) p q 432 (omega arith) j (omega (arith, p.size)))
