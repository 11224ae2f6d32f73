-- Rests of polynomials modulo a generator: times X is linear.
use Prim.Native.Nat.{zero, suc}
use Rattle.std.proofs.Common.{◌≡◌, ℕ, ◌+◌, ◌-◌, ◌*◌, ◌^◌, ◌<◌, ◌≤◌, inl, inr, true, false, nat_lt, arith, refl, ap, sym, ◌∙◌}
use Rattle.std.specs.Int.Bits.{bit_xor, xor_assoc, xor_self, xor_zero_r}
use Rattle.std.proofs.lemmas.Bool.{cases_lt, lt-ltb, le-ltb}
use Rattle.std.proofs.lemmas.Nat.{xor_comm, xor_lt, xor_block, pow_pos}
use Rattle.tetra_bits.specs.Polynomials.{reduced, times_x, power_rest}
use Rattle.tetra_parity.specs.Parity.{poly_sum}

-- the four of a sum in another order
pub xor_four : (a b c d : ℕ) → bit_xor (bit_xor a b) (bit_xor c d) ≡ bit_xor (bit_xor a c) (bit_xor b d)
xor_four a b c d =
    xor_assoc a b (bit_xor c d)
    ∙ ap (bit_xor a) (sym (xor_assoc b c d) ∙ ap (λ x. bit_xor x d) (xor_comm b c) ∙ xor_assoc c b d)
    ∙ sym (xor_assoc a c (bit_xor b d))

double-xor : (a b : ℕ) → 2 * bit_xor a b ≡ bit_xor (2 * a) (2 * b)
double-xor a b =
    let e : bit_xor (a * 2 ^ 1 + 0) (b * 2 ^ 1 + 0) ≡ bit_xor a b * 2 ^ 1 + bit_xor 0 0 = xor_block 1 a b 0 0 (omega arith) (omega arith) in
    let x : a * 2 ^ 1 + 0 ≡ 2 * a = omega arith in
    let y : b * 2 ^ 1 + 0 ≡ 2 * b = omega arith in
    let z : bit_xor 0 0 ≡ 0 = refl in
    let w : bit_xor (2 * a) (2 * b) ≡ bit_xor a b * 2 ^ 1 + 0 = rw (← x, ← y, ← z) e in
    omega arith

-- two numbers from 2 ^ d on, below its double, have a sum below it
top_leaves : (d a b : ℕ) → 2 ^ d ≤ a → a < 2 * 2 ^ d → 2 ^ d ≤ b → b < 2 * 2 ^ d → bit_xor a b < 2 ^ d
top_leaves d a b ga la gb lb =
    let ax : a ≡ 1 * 2 ^ d + (a - 2 ^ d) = omega arith in
    let bx : b ≡ 1 * 2 ^ d + (b - 2 ^ d) = omega arith in
    let lx : a - 2 ^ d < 2 ^ d = omega arith in
    let ly : b - 2 ^ d < 2 ^ d = omega arith in
    let e : bit_xor (1 * 2 ^ d + (a - 2 ^ d)) (1 * 2 ^ d + (b - 2 ^ d)) ≡ 0 * 2 ^ d + bit_xor (a - 2 ^ d) (b - 2 ^ d) = xor_block d 1 1 (a - 2 ^ d) (b - 2 ^ d) lx ly in
    let f : bit_xor a b ≡ 0 * 2 ^ d + bit_xor (a - 2 ^ d) (b - 2 ^ d) = ap (λ v. bit_xor v b) ax ∙ ap (bit_xor (1 * 2 ^ d + (a - 2 ^ d))) bx ∙ e in
    let s : bit_xor (a - 2 ^ d) (b - 2 ^ d) < 2 ^ d = xor_lt d (a - 2 ^ d) (b - 2 ^ d) lx ly in
    omega arith

-- one of them below it, and the sum is from it on
top_stays : (d a b : ℕ) → a < 2 ^ d → 2 ^ d ≤ b → b < 2 * 2 ^ d → 2 ^ d ≤ bit_xor a b
top_stays d a b la gb lb =
    let ax : a ≡ 0 * 2 ^ d + a = omega arith in
    let bx : b ≡ 1 * 2 ^ d + (b - 2 ^ d) = omega arith in
    let ly : b - 2 ^ d < 2 ^ d = omega arith in
    let e : bit_xor (0 * 2 ^ d + a) (1 * 2 ^ d + (b - 2 ^ d)) ≡ 1 * 2 ^ d + bit_xor a (b - 2 ^ d) = xor_block d 0 1 a (b - 2 ^ d) la ly in
    let f : bit_xor a b ≡ 1 * 2 ^ d + bit_xor a (b - 2 ^ d) = ap (λ v. bit_xor v b) ax ∙ ap (bit_xor (0 * 2 ^ d + a)) bx ∙ e in
    omega arith

module _ (d g : ℕ) (low : 2 ^ d ≤ g) (high : g < 2 * 2 ^ d) where
  pub reduced-lt : (p : ℕ) → p < 2 * 2 ^ d → reduced d g p < 2 ^ d
  unfolding reduced
  reduced-lt p h = elim (cases_lt p (2 ^ d)) [
    | inl l ↦ let t : nat_lt p (2 ^ d) ≡ true = lt-ltb p (2 ^ d) l in rw t l
    | inr ge ↦ let t : nat_lt p (2 ^ d) ≡ false = le-ltb p (2 ^ d) ge in rw t (top_leaves d p g ge h low high)
  ]

  pub reduced_below : (p : ℕ) → p < 2 ^ d → reduced d g p ≡ p
  unfolding reduced
  reduced_below p l = let t : nat_lt p (2 ^ d) ≡ true = lt-ltb p (2 ^ d) l in rw t refl

  reduced_above : (p : ℕ) → 2 ^ d ≤ p → reduced d g p ≡ bit_xor p g
  unfolding reduced
  reduced_above p ge = let t : nat_lt p (2 ^ d) ≡ false = le-ltb p (2 ^ d) ge in rw t refl

  -- the rest of a sum is the sum of the rests
  pub reduced-xor : (p q : ℕ) → p < 2 * 2 ^ d → q < 2 * 2 ^ d → reduced d g (bit_xor p q) ≡ bit_xor (reduced d g p) (reduced d g q)
  reduced-xor p q lp lq = elim (cases_lt p (2 ^ d)) [
    | inl sp ↦ elim (cases_lt q (2 ^ d)) [
      | inl sq ↦ reduced_below (bit_xor p q) (xor_lt d p q sp sq) ∙ sym (rw (reduced_below p sp, reduced_below q sq) refl)
      | inr gq ↦ reduced_above (bit_xor p q) (top_stays d p q sp gq lq) ∙ xor_assoc p q g ∙ sym (rw (reduced_below p sp, reduced_above q gq) refl)
    ]
    | inr gp ↦ elim (cases_lt q (2 ^ d)) [
      | inl sq ↦
          let stays : 2 ^ d ≤ bit_xor p q = rw (xor_comm p q) (top_stays d q p sq gp lp) in
          reduced_above (bit_xor p q) stays
          ∙ ap (λ x. bit_xor x g) (xor_comm p q)
          ∙ xor_assoc q p g
          ∙ xor_comm q (bit_xor p g)
          ∙ sym (rw (reduced_above p gp, reduced_below q sq) refl)
      | inr gq ↦
          reduced_below (bit_xor p q) (top_leaves d p q gp lp gq lq)
          ∙ sym (xor_zero_r (bit_xor p q))
          ∙ ap (bit_xor (bit_xor p q)) (sym (xor_self g))
          ∙ xor_four p q g g
          ∙ sym (rw (reduced_above p gp, reduced_above q gq) refl)
    ]
  ]

  -- X times a polynomial
  pub times_x-lt : (p : ℕ) → p < 2 ^ d → times_x d g p < 2 ^ d
  unfolding times_x
  times_x-lt p h = reduced-lt (2 * p) (omega arith)

  pub times_x-xor : (p q : ℕ) → p < 2 ^ d → q < 2 ^ d → times_x d g (bit_xor p q) ≡ bit_xor (times_x d g p) (times_x d g q)
  unfolding times_x
  times_x-xor p q lp lq = ap (reduced d g) (double-xor p q) ∙ reduced-xor (2 * p) (2 * q) (omega arith) (omega arith)

  pub times_x-zero : times_x d g 0 ≡ 0
  unfolding times_x
  times_x-zero = reduced_below 0 (pow_pos d)

  pub power_rest-lt : 1 < 2 ^ d → (n : ℕ) → power_rest d g n < 2 ^ d
  unfolding power_rest
  power_rest-lt one zero = one
  power_rest-lt one (suc n) = times_x-lt (power_rest d g n) (power_rest-lt one n)

  pub poly_sum-lt : (n : ℕ) (f : ℕ → ℕ) → ((k : ℕ) → f k < 2 ^ d) → poly_sum n f < 2 ^ d
  unfolding poly_sum
  poly_sum-lt zero f h = pow_pos d
  poly_sum-lt (suc n) f h = xor_lt d (poly_sum n f) (f (suc n)) (poly_sum-lt n f h) (h (suc n))

  pub times_x-sum : (n : ℕ) (f : ℕ → ℕ) → ((k : ℕ) → f k < 2 ^ d) → times_x d g (poly_sum n f) ≡ poly_sum n (λ k. times_x d g (f k))
  unfolding poly_sum
  times_x-sum zero f h = times_x-zero
  times_x-sum (suc n) f h = times_x-xor (poly_sum n f) (f (suc n)) (poly_sum-lt n f h) (h (suc n)) ∙ ap (λ x. bit_xor x (times_x d g (f (suc n)))) (times_x-sum n f h)

-- equal terms have equal sums
pub poly_sum-same : (n : ℕ) (f g : ℕ → ℕ) → ((k : ℕ) → 1 ≤ k → k ≤ n → f k ≡ g k) → poly_sum n f ≡ poly_sum n g
unfolding poly_sum
poly_sum-same zero f g e = refl
poly_sum-same (suc n) f g e = rw (poly_sum-same n f g (λ k a b. e k a (omega arith)), e (suc n) (omega arith) (omega arith)) refl
