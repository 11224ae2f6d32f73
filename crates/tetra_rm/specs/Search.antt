-- The search for the first-least message by its key, and tables of what the parts of a word add to it.
use Rattle.std.specs.Prelude.{◌≡◌, ◌<◌, ◌≤◌, ◌+◌, ◌*◌, ◌-◌, ◌/◌, ◌%◌, ◌^◌, ℕ, ℤ, Bool, List, [], length, take, drop, nat_eq, bit_xor, slice_index, slice_index_or}
use Rattle.tetra_bits.specs.Cost.{metric}
use Rattle.tetra_bits.specs.Digits.{digits}
use Rattle.tetra_rm.specs.Code.{rows_sum, access_metric}
use Rattle.tetra_rm.specs.declared.searching.Part.{Part}

-- the metric of the word of a message that is given as a number
unfoldable pub metric_of_number : List ℕ → List ℤ → ℕ → ℕ
metric_of_number rows soft m = access_metric rows soft (digits 14 m)

-- the key of a message, by the order of which the first-least message comes first
unfoldable pub key_of_number : List ℕ → List ℤ → ℕ → ℕ
key_of_number rows soft m = metric_of_number rows soft m * 16384 + m

-- x is the least of f 0 and so on up to f (n - 1)
pub record IsLeastBelow (f : ℕ → ℕ) (n x : ℕ) : Type 0 where
  pub least : (k : ℕ) → k < n → x ≤ f k
  pub place : ℕ
  pub there : place < n
  pub reached : x ≡ f place

-- what the n last bits of v, the highest first, cost at the values from a place on
unfoldable pub part_metric : List ℤ → ℕ → ℕ → ℕ → ℕ
part_metric soft from n v = metric (take n (drop from soft)) (digits n v)

-- the sums of the rows of all messages that are 0 but for n bits from a place on
abbrev pub IsPartSums : List ℕ → ℕ → ℕ → List ℕ → Type 0
IsPartSums rows from n sums =
    (v : ℕ) → v < 2 ^ n → slice_index sums v ≡ rows_sum rows (digits 14 (v * 2 ^ (14 - (from + n)))) 14

-- a table of these sums, each of which has 16 bits
pub record AreSums (rows : List ℕ) (from n : ℕ) (table : List ℕ) : Type 0 where
  pub sums : IsPartSums rows from n table
  pub fit : (v : ℕ) → v < 2 ^ n → slice_index table v < 2 ^ 16

-- the tables that an access code keeps: the sums of the five bits in front, of the six in the middle and of the last three
pub record AreTables (rows in_front in_middle at_end : List ℕ) : Type 0 where
  pub front : AreSums rows 0 5 in_front
  pub middle : AreSums rows 5 6 in_middle
  pub last : AreSums rows 11 3 at_end

-- what all parts of n bits add to a key, where the last bit stands for unit
abbrev pub IsPartKeys : List ℤ → ℕ → ℕ → ℕ → List ℕ → Type 0
IsPartKeys soft from n unit keys =
    (v : ℕ) → v < 2 ^ n → slice_index keys v ≡ part_metric soft from n v * 16384 + v * unit

-- lane j of entry v of a table by lanes
abbrev pub lane : List (List ℕ) → ℕ → ℕ → ℕ
lane keys v j = slice_index (slice_index_or keys v []) j

-- each entry has eight lanes
abbrev pub AreLanes : List (List ℕ) → Type 0
AreLanes keys = (v : ℕ) → v < 256 → length (slice_index_or keys v []) ≡ 8

-- the bit of the sum of lane j whose place value is 2 ^ place
abbrev pub lane_bit : List ℕ → ℕ → ℕ → Bool
lane_bit sums place j = nat_eq (slice_index sums j / 2 ^ place % 2) 1

-- a table by lanes of what n bits behind a message add to a key, where in lane j they are v and the bits of its own sum
-- from 2 ^ place on, added modulo 2
abbrev pub IsLaneKeys : List ℤ → ℕ → ℕ → List ℕ → ℕ → List (List ℕ) → Type 0
IsLaneKeys soft from n sums place keys =
    (v j : ℕ) → v < 2 ^ n → j < 8
    → lane keys v j ≡ part_metric soft from n (bit_xor v (slice_index sums j / 2 ^ place)) * 16384

-- the tables of a part of the message: n bits from a place on
pub record IsPart (rows : List ℕ) (soft : List ℤ) (from n : ℕ) (part : Part) : Type 0 where
  pub sums : IsPartSums rows from n part.sums
  pub fit : (v : ℕ) → v < 2 ^ n → slice_index part.sums v < 2 ^ 16
  pub keys : IsPartKeys soft from n (2 ^ (14 - (from + n))) part.keys
  pub small : (v : ℕ) → v < 2 ^ n → slice_index part.keys v < 2 ^ 29

-- each entry of a table by lanes has eight lanes, so small that the sum of five fits 32 bits
pub record FitLanes (keys : List (List ℕ)) : Type 0 where
  pub lanes : AreLanes keys
  pub small : (v j : ℕ) → v < 256 → j < 8 → lane keys v j < 2 ^ 29

-- what the first and the second eight bits behind a message add to its key, in lane j, where sum is that of the rows of
-- its other bits
abbrev pub key_behind : List (List ℕ) → List (List ℕ) → ℕ → ℕ → ℕ
key_behind first second sum j = lane first (sum / 256) j + lane second (sum % 256) j

-- the same and what the six bits in the middle of a message add to it
unfoldable pub key_in_middle : List (List ℕ) → List (List ℕ) → Part → ℕ → ℕ → ℕ → ℕ
key_in_middle first second middle sum j m =
    key_behind first second (bit_xor sum (slice_index middle.sums m)) j + slice_index middle.keys m

-- the key of a message that is given as a number, by its five bits in front, the six in the middle and the last three
unfoldable pub key_by_tables : List (List ℕ) → List (List ℕ) → Part → Part → Part → ℕ → ℕ
key_by_tables first second front middle last n =
    key_in_middle first second middle (slice_index front.sums (n / 512)) (n % 8) (n / 8 % 64) + slice_index front.keys (n / 512)
    + slice_index last.keys (n % 8)
