-- One shift of a register, as the code computes it.
use Prim.Native.Nat.{zero, suc}
use Rattle.std.proofs.Common.{◌≡◌, ℕ, ◌*◌, ◌/◌, ◌%◌, ◌^◌, ◌<◌, ◌≤◌, inl, inr, Bool, true, false, nat_lt, cond, lit≤, arith, refl, ap, sym, ◌∙◌}
use Rattle.std.proofs.Math.Pow.{pow-lt}
use Rattle.std.proofs.Math.Nat.{div-eq_of_lt, div-eq_of_lt-le, mod-eq_of_lt}
use mir.Val.{bool_byte}
use Rattle.std.specs.Int.Bits.{bit_xor, xor_zero_r}
use Rattle.std.proofs.lemmas.Bool.{cases_lt, lt-ltb, le-ltb}
use Rattle.std.proofs.lemmas.Nat.{xor_lt, pow_pos}
use Rattle.tetra_bits.specs.Polynomials.{reduced, times_x, power_rest}
use Rattle.tetra_parity.specs.Register.{IsGenerator}
use Rattle.tetra_parity.proofs.Rests.{reduced-lt, reduced-xor, reduced_below}

-- the powers of a degree
pub degree-lt : (d g : ℕ) → IsGenerator d g → 2 ^ d ≤ 65536
degree-lt d g h = elim (cases_lt d 16) [
  | inl l ↦ let p : 2 ^ d < 2 ^ 16 = pow-lt l in omega arith
  | inr e ↦ let f : d ≡ 16 = omega (arith, h.few) in rw f (lit≤ tt)
]

pub one-lt : (d g : ℕ) → IsGenerator d g → 1 < 2 ^ d
one-lt d g h = let some : 0 < d = omega (arith, h.some) in
    let p : 2 ^ 0 < 2 ^ d = pow-lt some in
    p

once : (p m : ℕ) → m ≤ p → p < 2 * m → p / m ≡ 1
once p m ge lt = div-eq_of_lt-le m (omega arith) (omega arith)

module _ (d g : ℕ) (is : IsGenerator d g) where
  -- the powers of X below the degree are their own rests
  low_power : (n : ℕ) → n < d → power_rest d g n ≡ 2 ^ n
  unfolding power_rest times_x
  low_power zero h = refl
  low_power (suc n) h =
      let p : 2 ^ suc n < 2 ^ d = pow-lt h in
      let e : 2 * 2 ^ n ≡ 2 ^ suc n = omega arith in
      rw (low_power n (omega arith)) (ap (reduced d g) e ∙ reduced_below d g is.low is.high (2 ^ suc n) p)

  -- and X to the degree is reduced
  top_power : power_rest d g d ≡ reduced d g (2 ^ d)
  unfolding power_rest times_x
  top_power = go d refl is.some
    where
      go : (n : ℕ) → n ≡ d → 1 ≤ n → power_rest d g n ≡ reduced d g (2 ^ n)
      go zero e some = absurd (omega arith)
      go (suc n) e some =
          let f : 2 * 2 ^ n ≡ 2 ^ suc n = omega arith in
          rw (low_power n (omega arith)) (ap (reduced d g) f)

  pub wide-lt : (r : ℕ) (bit : Bool) → r < 2 ^ d → bit_xor (2 * r) (cond bit (2 ^ d) 0) < 2 * 2 ^ d
  wide-lt r bit h =
      let e : 2 ^ suc d ≡ 2 * 2 ^ d = omega arith in
      let a : 2 * r < 2 ^ suc d = omega arith in
      let b : cond bit (2 ^ d) 0 < 2 ^ suc d = either bit in
      rw (← e) (xor_lt (suc d) (2 * r) (cond bit (2 ^ d) 0) a b)
    where
      either : (b : Bool) → cond b (2 ^ d) 0 < 2 ^ suc d
      either true = pow-lt (omega arith)
      either false = pow_pos (suc d)

  -- times X, and X to the degree where a bit comes in
  shifted_rest : (r : ℕ) (bit : Bool) → r < 2 ^ d
      → reduced d g (bit_xor (2 * r) (cond bit (2 ^ d) 0)) ≡ bit_xor (times_x d g r) (cond bit (power_rest d g d) 0)
  unfolding times_x
  shifted_rest r true h =
      let p : 2 ^ d < 2 * 2 ^ d = omega (arith, pow_pos d) in
      rw top_power (reduced-xor d g is.low is.high (2 * r) (2 ^ d) (omega arith) p)
  shifted_rest r false h = rw (xor_zero_r (2 * r)) (sym (xor_zero_r (reduced d g (2 * r))))

  -- the highest bit times the generator
  by_product : (p : ℕ) → p < 2 * 2 ^ d → bit_xor p (p / 2 ^ d * g) ≡ reduced d g p
  unfolding reduced
  by_product p h = elim (cases_lt p (2 ^ d)) [
    | inl l ↦
        let t : nat_lt p (2 ^ d) ≡ true = lt-ltb p (2 ^ d) l in
        let q : p / 2 ^ d ≡ 0 = div-eq_of_lt l in
        let z : 0 * g ≡ 0 = omega arith in
        rw (t, q, z) (xor_zero_r p)
    | inr ge ↦
        let t : nat_lt p (2 ^ d) ≡ false = le-ltb p (2 ^ d) ge in
        let q : p / 2 ^ d ≡ 1 = once p (2 ^ d) ge h in
        let z : 1 * g ≡ g = omega arith in
        rw (t, q, z) refl
  ]

  pub product-lt : (p : ℕ) → p < 2 * 2 ^ d → p / 2 ^ d * g ≤ g
  product-lt p h = elim (cases_lt p (2 ^ d)) [
    | inl l ↦ let q : p / 2 ^ d ≡ 0 = div-eq_of_lt l in rw q (omega arith)
    | inr ge ↦ let q : p / 2 ^ d ≡ 1 = once p (2 ^ d) ge h in rw q (omega arith)
  ]

  -- nothing is lost to the left
  wide_is : (r n : ℕ) (bit : Bool) → r < 2 ^ d → n ≡ bool_byte bit
      → bit_xor (r * 2 % 4294967296) (n * 2 ^ d % 4294967296) ≡ bit_xor (2 * r) (cond bit (2 ^ d) 0)
  wide_is r n bit h e =
      let few : 2 ^ d ≤ 65536 = degree-lt d g is in
      let a : r * 2 % 4294967296 ≡ 2 * r = omega arith in
      rw (a, e) (ap (bit_xor (2 * r)) (go bit few))
    where
      go : (b : Bool) → 2 ^ d ≤ 65536 → bool_byte b * 2 ^ d % 4294967296 ≡ cond b (2 ^ d) 0
      go true few = let o : 1 * 2 ^ d ≡ 2 ^ d = omega arith in rw o (mod-eq_of_lt (omega arith))
      go false few = let o : 0 * 2 ^ d ≡ 0 = omega arith in rw o refl

  pub shifted_value : (r n : ℕ) (bit : Bool) → r < 2 ^ d → n ≡ bool_byte bit
      → bit_xor (bit_xor (r * 2 % 4294967296) (n * 2 ^ d % 4294967296)) (bit_xor (r * 2 % 4294967296) (n * 2 ^ d % 4294967296) / 2 ^ d * g)
      ≡ bit_xor (times_x d g r) (cond bit (power_rest d g d) 0)
  shifted_value r n bit h e =
      let p = bit_xor (2 * r) (cond bit (2 ^ d) 0) in
      rw (wide_is r n bit h e) (by_product p (wide-lt r bit h) ∙ shifted_rest r bit h)

  pub shifted-lt : (r n : ℕ) (bit : Bool) → r < 2 ^ d → n ≡ bool_byte bit
      → bit_xor (bit_xor (r * 2 % 4294967296) (n * 2 ^ d % 4294967296)) (bit_xor (r * 2 % 4294967296) (n * 2 ^ d % 4294967296) / 2 ^ d * g) < 2 ^ d
  shifted-lt r n bit h e =
      let p = bit_xor (2 * r) (cond bit (2 ^ d) 0) in
      rw (wide_is r n bit h e, by_product p (wide-lt r bit h)) (reduced-lt d g is.low is.high p (wide-lt r bit h))

  pub product_fits : (r n : ℕ) (bit : Bool) → r < 2 ^ d → n ≡ bool_byte bit
      → bit_xor (r * 2 % 4294967296) (n * 2 ^ d % 4294967296) / 2 ^ d * g < 4294967296
  product_fits r n bit h e =
      let p = bit_xor (2 * r) (cond bit (2 ^ d) 0) in
      let few : 2 ^ d ≤ 65536 = degree-lt d g is in
      let le : p / 2 ^ d * g ≤ g = product-lt p (wide-lt r bit h) in
      rw (wide_is r n bit h e) (omega (arith, is.high))
