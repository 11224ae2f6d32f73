-- What the key does to bits and to soft values: scrambling, EN 300 392-2 clause 8.2.5. Entry i of a list, counted from
-- 1, goes with key bit from + i - 1.
use Rattle.std.specs.Prelude.{◌≡◌, ℕ, ◌+◌, ◌-◌, Bool, cond, ℤ, List, length}
use Rattle.std.proofs.Math.IntN.{neg_ℤ}
use Rattle.tetra_bits.specs.Numbered.{numbered}
use Rattle.tetra_bits.specs.Order.{bit_at}
use Rattle.tetra_bits.specs.Soft.{value_at}
use Rattle.tetra_bits.specs.Sums.{add2}
use Rattle.tetra_bits.specs.Undamaged.{IsUndamaged, IsNoneWrong}

-- the key bit that goes with entry i
unfoldable pub key_bit_for : List Bool → ℕ → ℕ → Bool
key_bit_for key from i = bit_at key (from + i - 1 - 1)

-- bit i with its key bit added
unfoldable pub flipped_bit : List Bool → List Bool → ℕ → ℕ → Bool
flipped_bit x key from i = add2 (bit_at x (i - 1)) (key_bit_for key from i)

-- the bits of x with the key bits added
unfoldable pub flipped : List Bool → List Bool → ℕ → List Bool
flipped x key from = numbered (flipped_bit x key from) (length x)

-- value i, its sign turned where its key bit is 1
unfoldable pub turned_value : List ℤ → List Bool → ℕ → ℕ → ℤ
turned_value x key from i = cond (key_bit_for key from i) (neg_ℤ (value_at x (i - 1))) (value_at x (i - 1))

-- the values of x, the signs turned where the key bits are 1
unfoldable pub turned : List ℤ → List Bool → ℕ → List ℤ
turned x key from = numbered (turned_value x key from) (length x)

-- the same bits added again, or the same signs turned again, give the list back
abbrev pub FlippedBack : Type 0
FlippedBack = (x key : List Bool) (from : ℕ) → flipped (flipped x key from) key from ≡ x

abbrev pub TurnedBack : Type 0
TurnedBack = (x : List ℤ) (key : List Bool) (from : ℕ) → turned (turned x key from) key from ≡ x

-- values that have the signs of bits have, once turned, the signs of the bits with the same key bits added
abbrev pub StaysUndamaged : Type 0
StaysUndamaged =
    (bits : List Bool) (values : List ℤ) (key : List Bool) (from : ℕ) → IsUndamaged bits values
    → IsUndamaged (flipped bits key from) (turned values key from)

-- and values none of which has the wrong sign have none of it, once turned
abbrev pub StaysNoneWrong : Type 0
StaysNoneWrong =
    (bits : List Bool) (values : List ℤ) (key : List Bool) (from : ℕ) → IsNoneWrong bits values
    → IsNoneWrong (flipped bits key from) (turned values key from)
