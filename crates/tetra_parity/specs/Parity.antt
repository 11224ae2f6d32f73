-- Parity: 16 bits behind the blocks of the signalling channels, the block code (K1 + 16, K1) of EN 300 392-2 clause
-- 8.2.3.3; 8 and 4 bits behind those of speech in whole and in half slots, this project's own. Bits of a block are
-- numbered from 1.
use Prim.Native.Nat.{zero, suc}
use Rattle.std.specs.Prelude.{◌≡◌, ℕ, ◌+◌, ◌-◌, Bool, true, false, ◌&&◌, cond, bit_xor, List, [], ◌∷◌, ◌++◌, length, take, drop}
use Rattle.std.proofs.Math.Bool.{beq}
use Rattle.tetra_bits.specs.Order.{bit_at}
use Rattle.tetra_bits.specs.Digits.{digits}
use Rattle.tetra_bits.specs.Polynomials.{power_rest}
use Rattle.tetra_bits.specs.Sums.{add2}
use Rattle.tetra_parity.specs.declared.kind.Parity.{Parity}
use Rattle.tetra_parity.specs.declared.kind.Parity.TheVariants.{Nothing, Four, Eight, Sixteen}

-- the sum of the polynomials f 1 to f n
unfoldable pub poly_sum : ℕ → (ℕ → ℕ) → ℕ
poly_sum zero f = 0
poly_sum (suc n) f = bit_xor (poly_sum n f) (f (suc n))

-- b(k) X^(d + K1 - k) modulo a generator of degree d
unfoldable pub block_term : ℕ → ℕ → List Bool → ℕ → ℕ
block_term d generator block k = cond (bit_at block (k - 1)) (power_rest d generator (d + length block - k)) 0

-- X^d M(X) modulo a generator of degree d, where M(X) is the sum of b(k) X^(K1 - k)
unfoldable pub block_rest : ℕ → ℕ → List Bool → ℕ
block_rest d generator block = poly_sum (length block) (block_term d generator block)

-- X^4 + X + 1
unfoldable pub generator4 : ℕ
generator4 = 0b1_0011

-- X^7 + X^3 + 1
unfoldable pub generator7 : ℕ
generator7 = 0b1000_1001

-- X^16 + X^12 + X^5 + 1
unfoldable pub generator16 : ℕ
generator16 = 0b1_0001_0000_0010_0001

-- four bits: the coefficients of X^4 M(X) modulo X^4 + X + 1, the highest first
unfoldable pub parity_bits4 : List Bool → List Bool
parity_bits4 block = digits 4 (block_rest 4 generator4 block)

-- seven bits: the coefficients of X^7 M(X) modulo X^7 + X^3 + 1, the highest first
unfoldable pub seven_bits : List Bool → List Bool
seven_bits block = digits 7 (block_rest 7 generator7 block)

-- the sum of bits modulo 2
unfoldable pub sum_of : List Bool → Bool
sum_of [] = false
sum_of (bit ∷ bits) = add2 bit (sum_of bits)

-- eight bits: the seven and the overall bit, the sum of the block and of the seven
unfoldable pub parity_bits8 : List Bool → List Bool
parity_bits8 block = seven_bits block ++ sum_of (block ++ seven_bits block) ∷ []

-- X^K1 X^(16 - i) modulo G(X) = X^16 + X^12 + X^5 + 1
unfoldable pub ones_term : ℕ → ℕ → ℕ
ones_term size i = power_rest 16 generator16 (size + 16 - i)

-- X^K1 L(X) modulo G(X), where L(X) is the sum of X^0 to X^15
unfoldable pub ones_rest : ℕ → ℕ
ones_rest size = poly_sum 16 (ones_term size)

-- F(X) = (X^16 M(X) + X^K1 L(X)) modulo G(X) + L(X)
unfoldable pub parity16 : List Bool → ℕ
parity16 block = bit_xor (bit_xor (block_rest 16 generator16 block) (ones_rest (length block))) 0xFFFF

-- sixteen bits: the coefficients of F(X), the highest first
unfoldable pub parity_bits16 : List Bool → List Bool
parity_bits16 block = digits 16 (parity16 block)

-- the number of parity bits
abbrev pub width : Parity → ℕ
width Nothing = 0
width Four = 4
width Eight = 8
width Sixteen = 16

-- the parity of a block
unfoldable pub parity_bits : Parity → List Bool → List Bool
parity_bits Nothing block = []
parity_bits Four block = parity_bits4 block
parity_bits Eight block = parity_bits8 block
parity_bits Sixteen block = parity_bits16 block

-- a block followed by its parity
unfoldable pub with_parity : Parity → List Bool → List Bool
with_parity parity block = block ++ parity_bits parity block

-- the number of bits before the parity of a message
unfoldable pub block_size : Parity → List Bool → ℕ
block_size parity message = length message - width parity

-- parity holds: the last bits are the parity of those before
unfoldable pub Holds : Parity → List Bool → Type 0
Holds parity message =
    let size = block_size parity message in drop size message ≡ parity_bits parity (take size message)

-- whether two lists of bits are the same
unfoldable pub same_bits : List Bool → List Bool → Bool
same_bits [] [] = true
same_bits [] (y ∷ ys) = false
same_bits (x ∷ xs) [] = false
same_bits (x ∷ xs) (y ∷ ys) = beq x y && same_bits xs ys

-- whether parity holds
unfoldable pub holds_of : Parity → List Bool → Bool
holds_of parity message =
    let size = block_size parity message in same_bits (drop size message) (parity_bits parity (take size message))

-- parity holds on each block with its parity
abbrev pub ParityHolds : Type 0
ParityHolds = (parity : Parity) (block : List Bool) → Holds parity (with_parity parity block)

-- the test is true exactly where parity holds
abbrev pub TestsParity : Type 0
TestsParity = (parity : Parity) (message : List Bool)
    → (holds_of parity message ≡ true → Holds parity message) × (Holds parity message → holds_of parity message ≡ true)
