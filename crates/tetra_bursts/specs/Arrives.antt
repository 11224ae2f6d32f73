-- Bursts that arrive undamaged: at each position of a sent bit the received value has the sign of that bit and is not
-- 0. Silent positions, silent subslots and phase pairs are free. This project's own.
use Rattle.std.specs.Prelude.{◌≡◌, ◌<◌, ◌≤◌, ◌-◌, ℕ, ℤ, Bool, true, false, List, Option, Some, is_some, length}
use Rattle.tetra_bits.specs.Soft.{value_at}
use Rattle.tetra_bits.specs.Undamaged.{HasSign, IsUndamaged}
use Rattle.tetra_bursts.specs.Table.{total, normal_down, sync_down, normal_up}
use Rattle.tetra_bursts.specs.Slot.{Carried}
use Rattle.tetra_bursts.specs.Laws.{part_at, standing}
use Rattle.tetra_bursts.specs.Bursts.{blocks_down, synchronisation, blocks_up, sub_bits, subs_table, normal_down_slot, sync_down_slot, normal_up_slot, control_up_slot}
use Rattle.tetra_bursts.specs.Fields.{first_half, second_half, sync_field, aach_field, aach_sync, sub_first, sub_second}
use Rattle.tetra_bursts.specs.Kind.{allows, burst_with, sequence_cost, kind as kind_of}
use Rattle.tetra_bursts.specs.declared.kinds.Allowed.{Allowed}
use Rattle.tetra_bursts.specs.declared.table.Part.{Part}
use Rattle.tetra_bursts.specs.declared.table.Part.TheVariants.{Silent, Tail, Training, Q, X, Frequency, First, Second, Aach, Sync, Pairs}
use Rattle.tetra_bursts.specs.declared.table.Span.{Span}
use Rattle.tetra_bursts.specs.declared.table.Train.{Train}
use Rattle.tetra_bursts.specs.declared.table.Train.TheVariants.{Y}

-- the parts of which a received slot must keep nothing
abbrev pub is_free : Part → Bool
is_free Silent = true
is_free Tail = false
is_free (Training train) = false
is_free Q = false
is_free X = false
is_free Frequency = false
is_free First = false
is_free Second = false
is_free Aach = false
is_free Sync = false
is_free Pairs = true

-- a received slot that is undamaged against what a burst carries, by the burst's table
pub record KeepsBy (carried : Carried) (table : List Span) (received : List ℤ) : Type 0 where
  pub size : length received ≡ total table
  pub signs : (k : ℕ) → 1 ≤ k → k ≤ total table → is_free (part_at table k) ≡ false
      → HasSign (standing carried table k) (value_at received (k - 1))

-- the same of each of the four bursts
abbrev pub KeepsNormalDown : Train → List Bool → List Bool → List Bool → List ℤ → Type 0
KeepsNormalDown train first aach second received =
    KeepsBy (blocks_down first aach second) (normal_down train) received

abbrev pub KeepsSyncDown : List Bool → List Bool → List Bool → List ℤ → Type 0
KeepsSyncDown sync aach half received = KeepsBy (synchronisation sync aach half) sync_down received

abbrev pub KeepsNormalUp : Train → List Bool → List Bool → List ℤ → Type 0
KeepsNormalUp train first second received = KeepsBy (blocks_up first second) (normal_up train) received

abbrev pub KeepsControlUp : Option (List Bool) → Option (List Bool) → List ℤ → Type 0
KeepsControlUp first second received =
    KeepsBy (blocks_up (sub_bits first) (sub_bits second)) (subs_table (is_some first) (is_some second)) received

-- a slot that is received as it was written is undamaged
pub record WrittenArrives : Type 0 where
  pub normal_down : (train : Train) (first aach second : List Bool)
      → KeepsNormalDown train first aach second (normal_down_slot train first aach second)
  pub sync_down : (sync aach half : List Bool) → KeepsSyncDown sync aach half (sync_down_slot sync aach half)
  pub normal_up : (train : Train) (first second : List Bool)
      → KeepsNormalUp train first second (normal_up_slot train first second)
  pub control_up : (first second : Option (List Bool))
      → KeepsControlUp first second (control_up_slot first second)

-- what is read of the fields of a burst is undamaged
pub record NormalDownIsRead (first aach second : List Bool) (received : List ℤ) : Type 0 where
  pub block_1 : IsUndamaged first (first_half true received)
  pub access : IsUndamaged aach (aach_field received)
  pub block_2 : IsUndamaged second (second_half true received)

pub record SyncDownIsRead (sync aach half : List Bool) (received : List ℤ) : Type 0 where
  pub synchronisation : IsUndamaged sync (sync_field received)
  pub access : IsUndamaged aach (aach_sync received)
  pub block_2 : IsUndamaged half (second_half true received)

pub record NormalUpIsRead (first second : List Bool) (received : List ℤ) : Type 0 where
  pub block_1 : IsUndamaged first (first_half false received)
  pub block_2 : IsUndamaged second (second_half false received)

-- where a burst arrives undamaged, so does what is read of its fields; of a control burst each subslot that was sent
pub record FieldsArrive : Type 0 where
  pub normal_down : (train : Train) (first aach second : List Bool) (received : List ℤ)
      → length first ≡ 216 → length aach ≡ 30 → length second ≡ 216
      → KeepsNormalDown train first aach second received → NormalDownIsRead first aach second received
  pub sync_down : (sync aach half : List Bool) (received : List ℤ)
      → length sync ≡ 120 → length aach ≡ 30 → length half ≡ 216
      → KeepsSyncDown sync aach half received → SyncDownIsRead sync aach half received
  pub normal_up : (train : Train) (first second : List Bool) (received : List ℤ)
      → length first ≡ 216 → length second ≡ 216
      → KeepsNormalUp train first second received → NormalUpIsRead first second received
  pub first_sub : (bits : List Bool) (second : Option (List Bool)) (received : List ℤ)
      → length bits ≡ 168 → KeepsControlUp (Some bits) second received → IsUndamaged bits (sub_first received)
  pub second_sub : (first : Option (List Bool)) (bits : List Bool) (received : List ℤ)
      → length bits ≡ 168 → KeepsControlUp first (Some bits) received → IsUndamaged bits (sub_second received)

-- y stands on the downlink only
abbrev pub StandsIn : Bool → Train → Type 0
StandsIn dl train = train ≡ Y → dl ≡ true

-- where a burst arrives undamaged, of the training sequences that may stand in the slot the written one alone costs 0
pub record OneCostsNothing (dl : Bool) (train : Train) (received : List ℤ) : Type 0 where
  pub own : sequence_cost received dl train ≡ 0
  pub others : (other : Train) → StandsIn dl other → (train ≡ other → ⊥) → 0 < sequence_cost received dl other

-- so its kind is the training sequence that was written, where that one is allowed
pub record KindArrives : Type 0 where
  pub costs : (carried : Carried) (dl : Bool) (train : Train) (received : List ℤ) → StandsIn dl train
      → KeepsBy carried (burst_with dl train) received → OneCostsNothing dl train received
  pub kind : (carried : Carried) (dl : Bool) (train : Train) (allowed : Allowed) (received : List ℤ)
      → KeepsBy carried (burst_with dl train) received → allows allowed train ≡ true
      → (allowed.y ≡ true → dl ≡ true) → kind_of received dl allowed ≡ train
