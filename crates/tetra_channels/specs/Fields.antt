-- What is read of a field. This project's own.
use Rattle.std.specs.Prelude.{◌≡◌, ℕ, ◌+◌, ◌*◌, ◌<◌, ◌≤◌, ℤ, List, [], length, slice_index_or, Some, None}
use Rattle.tetra_bits.specs.Plain.{best_plain}
use Rattle.tetra_bits.specs.Readings.{entry}
use Rattle.tetra_bits.specs.Soft.{AllWithin}
use Rattle.tetra_bits.specs.declared.reading.Mark.TheVariants.{Unchecked}
use Rattle.tetra_bits.specs.declared.reading.Reading.{Reading}
use Rattle.tetra_parity.specs.Marks.{mark_of}
use Rattle.tetra_puncture.specs.Best.{best_of, message_metric}
use Rattle.tetra_puncture.specs.Plan.{CodePlan}
use Rattle.tetra_puncture.specs.ToGo.{potentials_of}
use Rattle.tetra_rm.specs.Code.{best_access, access_metric}
use Rattle.tetra_channels.specs.Channels.{Channel}

-- the reading of a field of a coded channel over type-3 values: the first-least message of its code,
-- which parity has no part in, its metric, and the costs to go
unfoldable pub coded_reading : Channel → List ℤ → Reading
coded_reading channel soft =
    let message = best_of channel.plan soft in
    record {
      mark = mark_of channel.parity message;
      metric = message_metric channel.plan soft message;
      bits = message;
      potentials = Some (potentials_of channel.plan soft);
    }

-- the reading of an uncoded field: bit by bit
unfoldable pub raw_reading : List ℤ → Reading
raw_reading soft = record { mark = Unchecked; metric = 0; bits = best_plain soft; potentials = None }

-- the reading of an access field: the first-least message of its code, and its metric
unfoldable pub access_reading : List ℕ → List ℤ → Reading
access_reading rows soft =
    let message = best_access rows soft in
    record { mark = Unchecked; metric = access_metric rows soft message; bits = message; potentials = None }

-- the sizes of a reading: of its message, and of the costs to go, a row of 16 before each step and one behind the last
pub record IsSized (plan : CodePlan) (reading : Reading) : Type 0 where
  pub bits : length reading.bits + 4 ≡ plan.steps
  pub table : List (List ℕ)
  pub is_table : reading.potentials ≡ Some table
  pub rows : length table ≡ plan.steps + 1
  pub states : (t : ℕ) → t ≤ plan.steps → length (slice_index_or table t []) ≡ 16

-- its numbers: the metric and the costs to go are at most as much for each sent bit as the greatest of the values
pub record IsWithinTop (plan : CodePlan) (top : ℕ) (reading : Reading) : Type 0 where
  pub metric : reading.metric ≤ top * plan.sent
  pub numbers : (table : List (List ℕ)) → reading.potentials ≡ Some table
      → (t s : ℕ) → t ≤ plan.steps → s < 16 → entry table t s ≤ top * plan.sent

-- so they are for every greatest value
abbrev pub IsBoundedBy : CodePlan → List ℤ → Reading → Type 0
IsBoundedBy plan soft reading = (top : ℕ) → AllWithin top soft → IsWithinTop plan top reading
