-- The values of the fields of a received slot, by the tables of the bursts.
use Rattle.std.specs.Prelude.{◌≡◌, Bool, true, false, List, ℤ, length}
use Rattle.tetra_bursts.specs.Table.{normal_down, sync_down, normal_up, control_up}
use Rattle.tetra_bursts.specs.Slot.{read}
use Rattle.tetra_bursts.specs.declared.table.Part.TheVariants.{First, Second, Aach, Sync}
use Rattle.tetra_bursts.specs.declared.table.Span.{Span}
use Rattle.tetra_bursts.specs.declared.table.Train.TheVariants.{N}

-- the table by which the halves are read: the same positions whatever the training sequence
abbrev pub halves : Bool → List Span
halves true = normal_down N
halves false = normal_up N

-- block 1
unfoldable pub first_half : Bool → List ℤ → List ℤ
first_half dl soft = read First (halves dl) soft

-- block 2, also of a synchronisation burst
unfoldable pub second_half : Bool → List ℤ → List ℤ
second_half dl soft = read Second (halves dl) soft

-- the BSCH
unfoldable pub sync_field : List ℤ → List ℤ
sync_field soft = read Sync sync_down soft

-- the AACH of a normal burst
unfoldable pub aach_field : List ℤ → List ℤ
aach_field soft = read Aach (normal_down N) soft

-- the AACH of a synchronisation burst
unfoldable pub aach_sync : List ℤ → List ℤ
aach_sync soft = read Aach sync_down soft

-- the first subslot
unfoldable pub sub_first : List ℤ → List ℤ
sub_first soft = read First control_up soft

-- the second subslot
unfoldable pub sub_second : List ℤ → List ℤ
sub_second soft = read Second control_up soft

-- how many values the fields of a slot of 510 positions have
pub record FieldSizes (soft : List ℤ) : Type 0 where
  pub block_1 : (dl : Bool) → length (first_half dl soft) ≡ 216
  pub block_2 : (dl : Bool) → length (second_half dl soft) ≡ 216
  pub synchronisation : length (sync_field soft) ≡ 120
  pub access : length (aach_field soft) ≡ 30
  pub access_sync : length (aach_sync soft) ≡ 30
  pub subslot_1 : length (sub_first soft) ≡ 168
  pub subslot_2 : length (sub_second soft) ≡ 168

abbrev pub FieldsHaveSizes : Type 0
FieldsHaveSizes = (soft : List ℤ) → length soft ≡ 510 → FieldSizes soft
