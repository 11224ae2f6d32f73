-- The slots that are written: 510 soft values.
use Rattle.std.proofs.Common.{◌≡◌, Bool, true, false, List, length, refl, ◌∙◌, ℤ}
use Rattle.std.specs.Prelude.{is_some}
use Rattle.tetra_bits.specs.Soft.{AllSoft}
use Rattle.tetra_bursts.specs.Bursts.{subs_table, downlink, normal_down_slot, sync_down_slot, normal_up_slot, control_up_slot}
use Rattle.tetra_bursts.specs.Slot.{Carried, written}
use Rattle.tetra_bursts.specs.Table.{total, normal_down, sync_down, normal_up}
use Rattle.tetra_bursts.specs.declared.table.Span.{Span}
use Rattle.tetra_bursts.specs.lemmas.Written.{written_size, written_soft}
use Rattle.tetra_settings.specs.declared.types.Dir.{Dir}
use Rattle.tetra_settings.specs.declared.types.Dir.TheVariants.{Dl, Ul}
use Rattle.tetra_settings.specs.declared.types.Settings.{Settings}
use Rattle.tetra_settings.specs.declared.blocks.SlotBlocks.{SlotBlocks}
use Rattle.tetra_session.specs.Sent.{SlotBurst, Normal, Synchronisation, Subslots, slot_of, burst_after, access_in, slot_written}

-- a slot of so many values, all of them soft
record IsSlot (slot : List ℤ) : Type 0 where
  size : length slot ≡ 510
  soft : AllSoft slot

written_slot : (carried : Carried) (table : List Span) → total table ≡ 510 → IsSlot (written carried table)
written_slot carried table e = record { size = written_size carried table ∙ e; soft = written_soft carried table }

subs_total : (first second : Bool) → total (subs_table first second) ≡ 510
subs_total true true = refl
subs_total true false = refl
subs_total false true = refl
subs_total false false = refl

each_slot : (dir : Dir) (access : List Bool) (burst : SlotBurst) → IsSlot (slot_of dir access burst)
unfolding normal_down_slot sync_down_slot normal_up_slot control_up_slot downlink
each_slot Dl access (Normal train first second) = written_slot _ (normal_down train) refl
each_slot Ul access (Normal train first second) = written_slot _ (normal_up train) refl
each_slot Dl access (Synchronisation sync second) = written_slot _ sync_down refl
each_slot Ul access (Synchronisation sync second) = written_slot _ sync_down refl
each_slot Dl access (Subslots first second) = written_slot _ (subs_table (is_some first) (is_some second)) (subs_total (is_some first) (is_some second))
each_slot Ul access (Subslots first second) = written_slot _ (subs_table (is_some first) (is_some second)) (subs_total (is_some first) (is_some second))

pub slot_soft : (settings : Settings) (history : List SlotBlocks) (blocks : SlotBlocks) → AllSoft (slot_written settings history blocks)
unfolding slot_written
slot_soft settings history blocks = (each_slot settings.dir (access_in settings blocks) (burst_after settings history blocks)).soft

pub length-slot_written : (settings : Settings) (history : List SlotBlocks) (blocks : SlotBlocks) → length (slot_written settings history blocks) ≡ 510
unfolding slot_written
length-slot_written settings history blocks = (each_slot settings.dir (access_in settings blocks) (burst_after settings history blocks)).size
