-- What a register holds behind a block, one bit more.
use Prim.Native.Nat.{suc}
use Rattle.std.proofs.Common.{◌≡◌, ℕ, ◌+◌, ◌-◌, ◌^◌, ◌*◌, ◌<◌, ◌≤◌, Bool, true, false, cond, lit<, lit≤, List, [], ◌∷◌, ◌++◌, length, take, arith, refl, ap, sym, ◌∙◌}
use Rattle.std.specs.Int.Bits.{bit_xor}
use Rattle.std.proofs.lemmas.List.{get_or_append_left, length-append, take_more}
use Rattle.std.proofs.Math.Seq.{get_or-append_seam}
use Rattle.tetra_bits.specs.Order.{bit_at}
use Rattle.tetra_bits.specs.Polynomials.{times_x, power_rest}
use Rattle.tetra_parity.specs.Parity.{poly_sum, block_term, block_rest, generator4, generator7}
use Rattle.tetra_parity.specs.Register.{IsGenerator, shifted_by}
use Rattle.tetra_parity.proofs.Rests.{times_x-zero, times_x-sum, power_rest-lt, poly_sum-lt, poly_sum-same}
use Rattle.tetra_parity.proofs.Shifts.{one-lt}

pub length-snoc : (block : List Bool) (x : Bool) → length (block ++ x ∷ []) ≡ suc (length block)
length-snoc block x = length-append block (x ∷ []) ∙ omega arith

either_lt : (b : Bool) (n m : ℕ) → n < m → cond b n 0 < m
either_lt true n m h = h
either_lt false n m h = omega arith

module _ (d g : ℕ) (low : 2 ^ d ≤ g) (high : g < 2 * 2 ^ d) (one : 1 < 2 ^ d) where
  term-lt : (block : List Bool) (k : ℕ) → block_term d g block k < 2 ^ d
  unfolding block_term
  term-lt block k = either_lt (bit_at block (k - 1)) (power_rest d g (d + length block - k)) (2 ^ d) (power_rest-lt d g low high one (d + length block - k))

  pub block_rest-lt : (block : List Bool) → block_rest d g block < 2 ^ d
  unfolding block_rest
  block_rest-lt block = poly_sum-lt d g low high (length block) (block_term d g block) (term-lt block)

  times_term : (b : Bool) (n m : ℕ) → n ≡ suc m → cond b (power_rest d g n) 0 ≡ times_x d g (cond b (power_rest d g m) 0)
  unfolding power_rest
  times_term true n m e = rw e refl
  times_term false n m e = sym (times_x-zero d g low high)

  earlier_term : (block : List Bool) (x : Bool) (k : ℕ) → 1 ≤ k → k ≤ length block → block_term d g (block ++ x ∷ []) k ≡ times_x d g (block_term d g block k)
  unfolding block_term
  earlier_term block x k a b =
      let n : length (block ++ x ∷ []) ≡ suc (length block) = length-snoc block x in
      let inside : k - 1 < length block = omega arith in
      let same : bit_at (block ++ x ∷ []) (k - 1) ≡ bit_at block (k - 1) = get_or_append_left block (x ∷ []) false (k - 1) inside in
      rw (n, same) (times_term (bit_at block (k - 1)) (d + suc (length block) - k) (d + length block - k) (omega arith))

  last_term : (block : List Bool) (x : Bool) → block_term d g (block ++ x ∷ []) (suc (length block)) ≡ cond x (power_rest d g d) 0
  unfolding block_term
  last_term block x =
      let n : length (block ++ x ∷ []) ≡ suc (length block) = length-snoc block x in
      let place : suc (length block) - 1 ≡ length block = omega arith in
      let power : d + suc (length block) - suc (length block) ≡ d = omega arith in
      rw (n, place, power, get_or-append_seam block x [] false) refl

  -- one bit more is times X, and X^d where it is 1
  pub block_rest-snoc : (block : List Bool) (x : Bool) → block_rest d g (block ++ x ∷ []) ≡ bit_xor (times_x d g (block_rest d g block)) (cond x (power_rest d g d) 0)
  unfolding block_rest poly_sum
  block_rest-snoc block x =
      let n : length (block ++ x ∷ []) ≡ suc (length block) = length-snoc block x in
      let before : poly_sum (length block) (block_term d g (block ++ x ∷ [])) ≡ times_x d g (poly_sum (length block) (block_term d g block)) = poly_sum-same (length block) (block_term d g (block ++ x ∷ [])) (λ k. times_x d g (block_term d g block k)) (earlier_term block x) ∙ sym (times_x-sum d g low high (length block) (block_term d g block) (term-lt block)) in
      rw n (rw (before, last_term block x) refl)

module _ (d g : ℕ) (is : IsGenerator d g) where
  pub held_first : block_rest d g [] ≡ 0
  unfolding block_rest poly_sum
  held_first = refl

  pub held-lt : (block : List Bool) → block_rest d g block < 2 ^ d
  held-lt block = block_rest-lt d g is.low is.high (one-lt d g is) block

  -- the register behind one bit more
  pub register_next : (bits : List Bool) (i register : ℕ) (bit : Bool) (next : ℕ) → i < length bits → register ≡ block_rest d g (take i bits)
      → bit ≡ bit_at bits i → next ≡ shifted_by d g register bit → next ≡ block_rest d g (take (i + 1) bits)
  register_next bits i register bit next h er eb en =
      en ∙ rw (er, eb) (sym (block_rest-snoc d g is.low is.high (one-lt d g is) (take i bits) (bit_at bits i))) ∙ ap (block_rest d g) (sym (take_more bits i false h))

pub is_generator4 : IsGenerator 4 generator4
unfolding generator4
is_generator4 = record { some = lit≤ tt; few = lit≤ tt; low = lit≤ tt; high = lit< tt }

pub is_generator7 : IsGenerator 7 generator7
unfolding generator7
is_generator7 = record { some = lit≤ tt; few = lit≤ tt; low = lit≤ tt; high = lit< tt }
