-- Tables whose rows come one from the next, modulo 2^32. This project's own.
use Rattle.std.specs.Prelude.{◌≡◌, ℕ, ◌+◌, ◌/◌, ◌%◌, ◌^◌, ◌<◌, ◌≤◌, Bool, List, [], length, ℤ, slice_index_or, nat_eq, replicate}
use Rattle.tetra_bits.specs.Order.{bit_at}
use Rattle.tetra_puncture.specs.Butterflies.{IsLeastRow, IsZeroRow, AreMarks, lane_of}
use Rattle.tetra_puncture.specs.Plan.{CodePlan}
use Rattle.tetra_puncture.specs.Trellis.{state_passed}

-- a row is the least one before the next, and the bit is 1 exactly where the state in this lane is not marked
pub record RowFits (p : CodePlan) (wide : List ℤ) (table : List (List ℕ)) (t lane : ℕ) (bit : Bool) : Type 0 where
  pub row : IsLeastRow p wide t (slice_index_or table (t + 1) []) (slice_index_or table t [])
  pub marks : ℕ
  pub marked : AreMarks p wide t (slice_index_or table (t + 1) []) (slice_index_or table t []) marks
  pub bit_is : bit ≡ nat_eq (marks / 2 ^ lane % 2) 0

-- so at all steps of the message, in the lanes of the states that it passes
pub record FreeRowsFit (p : CodePlan) (wide : List ℤ) (m : List Bool) (table : List (List ℕ)) : Type 0 where
  pub step : (t : ℕ) → t < length m → RowFits p wide table t (lane_of (state_passed m t)) (bit_at m t)

-- the last four steps go by bit 0, and the row behind them is 0
pub record TailRowsFit (p : CodePlan) (wide : List ℤ) (table : List (List ℕ)) : Type 0 where
  pub step : (t : ℕ) → p.steps ≤ t + 4 → t < p.steps → IsZeroRow p wide t (slice_index_or table (t + 1) []) (slice_index_or table t [])
  pub end : slice_index_or table p.steps [] ≡ replicate 16 0
