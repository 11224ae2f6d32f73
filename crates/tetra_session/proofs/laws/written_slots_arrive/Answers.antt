use Rattle.std.proofs.Common.{Bool, List}
use Rattle.tetra_bursts.specs.Arrives.{WrittenArrives}
use Rattle.tetra_settings.specs.declared.types.Dir.{Dir}
use Rattle.tetra_settings.specs.declared.types.Dir.TheVariants.{Dl, Ul}
use Rattle.tetra_settings.specs.declared.types.Settings.{Settings}
use Rattle.tetra_settings.specs.declared.blocks.SlotBlocks.{SlotBlocks}
use Rattle.tetra_session.specs.Sent.{SlotBurst, Normal, Synchronisation, Subslots, slot_of, KeepsSlotOf, access_in, burst_after, slot_written, KeepsSlot}
use Rattle.tetra_session.specs.lemmas.Written.{slot_soft, length-slot_written}
use Rattle.tetra_session.proofs.laws.written_slots_arrive.Goals as goal

keeps_itself : WrittenArrives → (dir : Dir) (access : List Bool) (burst : SlotBurst) → KeepsSlotOf dir access burst (slot_of dir access burst)
keeps_itself arrives Dl access (Normal train first second) = arrives.normal_down train first access second
keeps_itself arrives Ul access (Normal train first second) = arrives.normal_up train first second
keeps_itself arrives Dl access (Synchronisation sync second) = arrives.sync_down sync access second
keeps_itself arrives Ul access (Synchronisation sync second) = arrives.sync_down sync access second
keeps_itself arrives Dl access (Subslots first second) = arrives.control_up first second
keeps_itself arrives Ul access (Subslots first second) = arrives.control_up first second

slot_kept : WrittenArrives → (settings : Settings) (history : List SlotBlocks) (blocks : SlotBlocks) → KeepsSlot settings history blocks (slot_written settings history blocks)
unfolding KeepsSlot slot_written
slot_kept arrives settings history blocks = keeps_itself arrives settings.dir (access_in settings blocks) (burst_after settings history blocks)

pub returns : goal.returns
returns c settings history blocks = record {
  size = length-slot_written settings history blocks;
  soft = slot_soft settings history blocks;
  kept = slot_kept c.written_arrives.ensures settings history blocks;
}
