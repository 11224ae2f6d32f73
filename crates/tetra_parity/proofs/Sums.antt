-- The powers of X, and the parity of 16 bits as a sum of them.
use mir.Val.{bool_byte}
use Prim.Native.Nat.{zero, suc}
use Rattle.std.proofs.Common.{◌≡◌, ℕ, ◌+◌, ◌-◌, ◌*◌, ◌<◌, ◌≤◌, Bool, true, false, ◌&&◌, nat_eq, cond, List, [], ◌∷◌, length, get_or, take, arith, refl, ap, ◌∙◌}
use Rattle.std.specs.Int.Bits.{bit_xor}
use Rattle.std.proofs.lemmas.Bool.{eqb-true, and_parts}
use Rattle.std.proofs.lemmas.List.{length-take-le, get_or-take}
use Rattle.tetra_bits.specs.Order.{bit_at}
use Rattle.tetra_bits.specs.Polynomials.{reduced, times_x, power_rest}
use Rattle.tetra_parity.specs.declared.powers.TheConstants.{POWERS}
use Rattle.tetra_parity.specs.Parity.{poly_sum, block_term, block_rest, generator16, ones_term, ones_rest, parity16}

-- each number is X times the one before
follows : ℕ → List ℕ → Bool
follows x [] = true
follows x (y ∷ ys) = nat_eq y (times_x 16 generator16 x) && follows y ys

powers_at : (ys : List ℕ) (x n k d : ℕ) → x ≡ power_rest 16 generator16 n → follows x ys ≡ true → k < length (x ∷ ys)
    → get_or (x ∷ ys) k d ≡ power_rest 16 generator16 (n + k)
unfolding power_rest follows
powers_at ys x n zero d e f h = e ∙ ap (power_rest 16 generator16) (omega arith)
powers_at [] x n (suc k) d e f h = absurd (omega arith)
powers_at (y ∷ ys) x n (suc k) d e f h =
    let parts = and_parts (nat_eq y (times_x 16 generator16 x)) (follows y ys) f in
    let here : y ≡ power_rest 16 generator16 (suc n) = eqb-true y (times_x 16 generator16 x) parts.0 ∙ ap (times_x 16 generator16) e in
    let place : suc n + k ≡ n + suc k = omega arith in
    powers_at ys y (suc n) k d here parts.1 (omega arith) ∙ ap (power_rest 16 generator16) place

-- from X^0 on
follows_all : List ℕ → Bool
follows_all [] = false
follows_all (x ∷ xs) = nat_eq x 1 && follows x xs

from_one : (xs : List ℕ) (n : ℕ) → follows_all xs ≡ true → n < length xs → get_or xs n 0 ≡ power_rest 16 generator16 n
unfolding follows_all power_rest
from_one [] n f h = absurd (omega arith)
from_one (x ∷ xs) n f h =
    let parts = and_parts (nat_eq x 1) (follows x xs) f in
    let place : 0 + n ≡ n = omega arith in
    powers_at xs x 0 n 0 (eqb-true x 1 parts.0) parts.1 h ∙ ap (power_rest 16 generator16) place

-- one term more
more : (f : ℕ → ℕ) (i n : ℕ) → n ≡ suc i → bit_xor (poly_sum i f) (f n) ≡ poly_sum n f
unfolding poly_sum
more f i n e = rw e refl

pub no_terms : (f : ℕ → ℕ) → 0 ≡ poly_sum 0 f
unfolding poly_sum
no_terms f = refl

pub term_more : (f : ℕ → ℕ) (i sum term : ℕ) → sum ≡ poly_sum i f → term ≡ f (i + 1) → bit_xor sum term ≡ poly_sum (i + 1) f
term_more f i sum term es et = rw (es, et) (more f i (i + 1) (omega arith))

product : (b : Bool) (p : ℕ) → bool_byte b * p ≡ cond b p 0
product true p = omega arith
product false p = omega arith

pub product_fits : (byte p : ℕ) (b : Bool) → byte ≡ bool_byte b → p < 65536 → byte * p < 65536
product_fits byte p true e h = let o : 1 * p ≡ p = omega arith in rw (e, o) h
product_fits byte p false e h = let o : 0 * p ≡ 0 = omega arith in rw (e, o) (omega arith)

-- the term of one bit of the block
pub block_product : (bits : List Bool) (size i byte p : ℕ) (b : Bool) → size ≤ length bits → i < size → byte ≡ bool_byte b → b ≡ bit_at bits i
    → p ≡ power_rest 16 generator16 (15 + size - i) → byte * p ≡ block_term 16 generator16 (take size bits) (i + 1)
unfolding block_term
block_product bits size i byte p b there h eb ebit ep =
    let long : length (take size bits) ≡ size = length-take-le size bits there in
    let back : i + 1 - 1 ≡ i = omega arith in
    let at : 16 + size - (i + 1) ≡ 15 + size - i = omega arith in
    let same : bit_at (take size bits) i ≡ bit_at bits i = get_or-take size bits i false h in
    rw (eb, ep, long, back, at, same, ← ebit) (product b (power_rest 16 generator16 (15 + size - i)))

pub whole_block : (bits : List Bool) (size i sum : ℕ) → size ≤ length bits → i ≡ size → sum ≡ poly_sum i (block_term 16 generator16 (take size bits))
    → sum ≡ block_rest 16 generator16 (take size bits)
unfolding block_rest
whole_block bits size i sum there e h =
    let long : length (take size bits) ≡ size = length-take-le size bits there in
    rw long (h ∙ ap (λ n. poly_sum n (block_term 16 generator16 (take size bits))) e)

pub ones_power : (size i p : ℕ) → i < 16 → p ≡ power_rest 16 generator16 (size + 15 - i) → p ≡ ones_term size (i + 1)
unfolding ones_term
ones_power size i p h e =
    let at : size + 15 - i ≡ size + 16 - (i + 1) = omega arith in
    e ∙ ap (power_rest 16 generator16) at

pub all_ones : (size i sum : ℕ) → i ≡ 16 → sum ≡ poly_sum i (ones_term size) → sum ≡ ones_rest size
unfolding ones_rest
all_ones size i sum e h = h ∙ ap (λ n. poly_sum n (ones_term size)) e

pub sums : (bits : List Bool) (size block ones : ℕ) → size ≤ length bits → block ≡ block_rest 16 generator16 (take size bits) → ones ≡ ones_rest size
    → bit_xor (bit_xor block ones) 65535 ≡ parity16 (take size bits)
unfolding parity16
sums bits size block ones there eb eo =
    let long : length (take size bits) ≡ size = length-take-le size bits there in
    rw (eb, eo, long) refl

-- the table of powers
table_follows : follows_all POWERS ≡ true
unfolding follows_all follows times_x reduced generator16
table_follows = refl

pub power_at : (n : ℕ) → n < 432 → get_or POWERS n 0 ≡ power_rest 16 generator16 n
power_at n h = from_one POWERS n table_follows (omega arith)
