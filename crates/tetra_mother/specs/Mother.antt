-- The mother word of a convolutional code of constraint length five, after EN 300 392-2 clause 8.2.3,
-- and its state form. Bits, steps and outputs are numbered from 1. The taps of a code say whether
-- generator i has the term D^j.
use Prim.Native.Nat.{zero, suc}
use Rattle.std.specs.Prelude.{ℕ, ◌+◌, ◌-◌, ◌*◌, ◌/◌, ◌%◌, ◌^◌, Bool, false, not, ◌&&◌, cond, List, slice_index_or, nat_lt, nat_eq}

-- the sum of two bits modulo 2
abbrev pub add2 : Bool → Bool → Bool
add2 a b = cond a (not b) b

-- the sum modulo 2 of f 0 to f (n - 1)
abbrev pub sum2 : (ℕ → Bool) → ℕ → Bool
sum2 f zero = false
sum2 f (suc n) = add2 (sum2 f n) (f n)

-- bit k - j of the bits that go in; those before the first are 0
abbrev pub bit_back : List Bool → ℕ → ℕ → Bool
bit_back bits k j = cond (nat_lt j k) (slice_index_or bits (k - j - 1) false) false

-- the term of bit k - j in output i
abbrev pub term : (ℕ → ℕ → Bool) → List Bool → ℕ → ℕ → ℕ → Bool
term taps bits k i j = bit_back bits k j && taps i j

-- output i of step k: the sum modulo 2 of b(k-j) g(i,j) over j from 0 to 4
unfoldable pub output : (ℕ → ℕ → Bool) → List Bool → ℕ → ℕ → Bool
output taps bits k i = sum2 (term taps bits k i) 5

-- bit v of the mother word, V(outs (k-1) + i) being output i of step k
unfoldable pub mother_bit : (ℕ → ℕ → Bool) → ℕ → List Bool → ℕ → Bool
mother_bit taps outs bits v = output taps bits ((v - 1) / outs + 1) ((v - 1) % outs + 1)

-- 1 for a bit that is set
abbrev pub number : Bool → ℕ
number b = cond b 1 0

-- the state before step k: the four bits before it, the last one highest
unfoldable pub state_before : List Bool → ℕ → ℕ
state_before bits k =
    8 * number (bit_back bits k 1) + 4 * number (bit_back bits k 2)
    + 2 * number (bit_back bits k 3) + number (bit_back bits k 4)

-- the state to which bit b leads from state s
unfoldable pub next_state : ℕ → Bool → ℕ
next_state s b = s / 2 + 8 * number b

-- the bit j steps back, seen from a step that takes b in state s
abbrev pub seen : ℕ → Bool → ℕ → Bool
seen s b zero = b
seen s b (suc j) = nat_eq (s / 2 ^ (3 - j) % 2) 1

-- its term in output i
abbrev pub edge_term : (ℕ → ℕ → Bool) → ℕ → Bool → ℕ → ℕ → Bool
edge_term taps s b i j = seen s b j && taps i j

-- output i of a step that takes b in state s: the same sum over the bits of the state
unfoldable pub edge : (ℕ → ℕ → Bool) → ℕ → Bool → ℕ → Bool
edge taps s b i = sum2 (edge_term taps s b i) 5
