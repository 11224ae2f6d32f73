-- The scrambling sequence of a colour, EN 300 392-2 clause 8.2.5. Its bits p(1) to p(432) are called
-- the key. Bit p(k) is the sum modulo 2 of p(k - i) over the distances i, where p(0) to p(-29) are the
-- bits e(1) to e(30) of the colour, and p(-30) = p(-31) = 1.
use Prim.Native.Nat.{zero, suc}
use Rattle.std.specs.Prelude.{◌≡◌, ℕ, ◌-◌, ◌≤◌, Bool, true, false, nat_lt, cond, List, [], ◌∷◌, ◌++◌, length}
use Rattle.tetra_bits.specs.Numbered.{numbered}
use Rattle.tetra_bits.specs.Order.{bit_at}
use Rattle.tetra_bits.specs.Sums.{add2}
use Rattle.tetra_scramble.specs.Colour.{colour_bits}
use Rattle.tetra_scramble.specs.declared.colour.Colour.{Colour}

unfoldable pub distances : List ℕ
distances = 1 ∷ 2 ∷ 4 ∷ 5 ∷ 7 ∷ 8 ∷ 10 ∷ 11 ∷ 12 ∷ 16 ∷ 22 ∷ 23 ∷ 26 ∷ 32 ∷ []

-- the sum modulo 2 of f over a list of numbers
unfoldable pub sum2_over : List ℕ → (ℕ → Bool) → Bool
sum2_over [] f = false
sum2_over (i ∷ is) f = add2 (f i) (sum2_over is f)

-- p(k - i), where p(1), p(2) and so on are the bits of the key: for i from k on it is e(1 + i - k), and 1 behind e(30)
unfoldable pub bit_before : List Bool → List Bool → ℕ → ℕ → Bool
bit_before e key k i = cond (nat_lt i k) (bit_at key (k - i - 1)) (cond (nat_lt (i - k) 30) (bit_at e (i - k)) true)

-- the key of the bits e(1) to e(30): each of its bits is the sum of the bits at the distances before it
pub record IsKey (e key : List Bool) : Type 0 where
  pub size : length key ≡ 432
  pub sums : (k : ℕ) → 1 ≤ k → k ≤ 432 → bit_at key (k - 1) ≡ sum2_over distances (bit_before e key k)

-- the same as a function: p(n), p(n - 1) and so on down to p(-31)
unfoldable pub past : List Bool → ℕ → List Bool
past e zero = e ++ true ∷ true ∷ []
past e (suc n) = sum2_over distances (λ i. bit_at (past e n) (i - 1)) ∷ past e n

-- p(k)
unfoldable pub key_bit : List Bool → ℕ → Bool
key_bit e k = bit_at (past e k) 0

-- the key of the bits e(1) to e(30)
unfoldable pub key_from : List Bool → List Bool
key_from e = numbered (key_bit e) 432

-- the key of a colour
unfoldable pub key_of : Colour → List Bool
key_of colour = key_from (colour_bits colour)

-- the bits e of the key of BSCH
unfoldable pub no_colour : List Bool
no_colour = numbered (λ _. false) 30

-- the key of BSCH
unfoldable pub zero_key_bits : List Bool
zero_key_bits = key_from no_colour

-- there is no other key of these bits than the function's
abbrev pub OnlyKey : Type 0
OnlyKey = (e key : List Bool) → length e ≡ 30 → IsKey e key → key ≡ key_from e

-- the function gives a key of these bits
abbrev pub KeyIsKey : Type 0
KeyIsKey = (e : List Bool) → length e ≡ 30 → IsKey e (key_from e)
