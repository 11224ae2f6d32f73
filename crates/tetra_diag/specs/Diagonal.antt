-- Diagonal interleaving over n slots, EN 300 392-2 clause 8.2.4.2. Blocks m = 0, 1, 2 and so on are pushed one by one,
-- and each push gives one slot word: bit k of slot word m is bit j + 1 + i n of block m - j, with
-- j = (k - 1) div (432 / n) and i = (k - 1) mod (432 / n), and 0 where there is no block m - j. Bits and values are
-- numbered from 1. How the values of a block are found again is this project's own.
use Rattle.std.specs.Prelude.{◌≡◌, ◌<◌, ℕ, ◌+◌, ◌-◌, ◌*◌, ◌/◌, ◌%◌, Bool, true, false, ◌||◌, IsTrue, cond, List, [], length, drop, slice_index_or, nat_eq, nat_lt, ℤ, Option, Some, None}
use Rattle.tetra_bits.specs.Numbered.{numbered}
use Rattle.tetra_bits.specs.Order.{bit_at}
use Rattle.tetra_bits.specs.Soft.{value_at}

-- the numbers of slots over which blocks are spread
abbrev pub is_depth : ℕ → Bool
is_depth n = nat_eq n 1 || (nat_eq n 4 || nat_eq n 8)

abbrev pub IsDepth : ℕ → Type 0
IsDepth n = IsTrue (is_depth n)

-- the block that was pushed j before the last of these, and no bits where there is none
abbrev pub block_before : List (List Bool) → ℕ → List Bool
block_before blocks j = cond (nat_lt j (length blocks)) (slice_index_or blocks (length blocks - 1 - j) []) []

-- bit k of the slot word of the last of these blocks
unfoldable pub spread_bit : ℕ → List (List Bool) → ℕ → Bool
spread_bit n blocks k =
    let j = (k - 1) / (432 / n) in
    let i = (k - 1) % (432 / n) in
    bit_at (block_before blocks j) (j + 1 + i * n - 1)

-- the slot word of the last of these blocks
unfoldable pub spread_word : ℕ → List (List Bool) → List Bool
spread_word n blocks = numbered (spread_bit n blocks) 432

-- the value of place q of the block that the last n of these words complete: word m is the last, and with
-- j = (q - 1) mod n and i = (q - 1) div n it lies in word m - n + 1 + j, at place j (432 / n) + i + 1
unfoldable pub gathered_value : ℕ → List (List ℤ) → ℕ → ℤ
gathered_value n words q =
    let j = (q - 1) % n in
    let i = (q - 1) / n in
    value_at (slice_index_or words (length words - n + j) []) (j * (432 / n) + i + 1 - 1)

-- of the places of such a block, word by word, the first m have their values
abbrev pub AreGathered : ℕ → List (List ℤ) → ℕ → List ℤ → Type 0
AreGathered n words m block = (q : ℕ) → q < 432 → q % n * (432 / n) + q / n < m → value_at block q ≡ gathered_value n words (q + 1)

-- the block that the last of these words completes: none before there are n
unfoldable pub gathered : ℕ → List (List ℤ) → Option (List ℤ)
gathered n words = cond (nat_lt (length words) n) None (Some (numbered (gathered_value n words) 432))

-- the block of which the last n of these slot words have all bits: block m - n + 1, where block m is the last
abbrev pub complete_block : ℕ → List (List Bool) → List Bool
complete_block n blocks = slice_index_or blocks (length blocks - n) []

-- the last n entries, or all where there are fewer
abbrev pub last : {X : Type 0} → ℕ → List X → List X
last n xs = drop (length xs - n) xs

-- a spreader stands for the blocks that were pushed: it keeps the last n of them
abbrev pub SpreadStands : ℕ → List (List Bool) → List (List Bool) → Type 0
SpreadStands n blocks spread = spread ≡ last n blocks

-- a gatherer stands for the words that were pushed: it keeps the last n of them
abbrev pub GatherStands : ℕ → List (List ℤ) → List (List ℤ) → Type 0
GatherStands n words gather = gather ≡ last n words

-- what is left in a list that is filled where a block is complete
abbrev pub Fills : Option (List ℤ) → Bool → List ℤ → List ℤ → Type 0
Fills None filled old new = (filled ≡ false) × (new ≡ old)
Fills (Some block) filled old new = (filled ≡ true) × (new ≡ block)
