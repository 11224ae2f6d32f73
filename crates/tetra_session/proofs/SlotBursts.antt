-- What a sender sends by what it keeps.
use Rattle.std.proofs.Common.{ℕ, ◌≡◌, Bool, List, length, Option, refl}
use Rattle.tetra_bursts.specs.Bursts.{sync_down_slot, control_up_slot}
use Rattle.tetra_scramble.specs.Key.{key_of}
use Rattle.tetra_settings.specs.Slots.{timeslot_of, mode_of}
use Rattle.tetra_settings.specs.declared.types.Dir.{Dir}
use Rattle.tetra_settings.specs.declared.types.Dir.TheVariants.{Dl, Ul}
use Rattle.tetra_settings.specs.declared.types.Settings.{Settings}
use Rattle.tetra_settings.specs.declared.blocks.SlotBlocks.{SlotBlocks}
use Rattle.tetra_session.specs.Sent.{SlotBurst, Synchronisation, Subslots, slot_of, access_of, burst_of, blocks_sent, slot_written}

-- bursts that stand in one direction alone
pub slot_of_sync : (dir : Dir) (access sync second : List Bool) → slot_of dir access (Synchronisation sync second) ≡ sync_down_slot sync access second
slot_of_sync Dl access sync second = refl
slot_of_sync Ul access sync second = refl

pub slot_of_subs : (dir : Dir) (access : List Bool) (first second : Option (List Bool)) → slot_of dir access (Subslots first second) ≡ control_up_slot first second
slot_of_subs Dl access first second = refl
slot_of_subs Ul access first second = refl

module _ (settings : Settings) (history : List SlotBlocks) (blocks : SlotBlocks) (turn : ℕ) (key access : List Bool) (turns : turn ≡ length history)
    (keyed : key ≡ key_of settings.colour) (accessed : access ≡ access_of settings.rows.0 key blocks.aach) where
  pub slot_is : (burst : SlotBurst) → burst ≡ burst_of key (mode_of settings turn) (blocks_sent settings (timeslot_of settings.at turn) history) blocks.body
      → slot_of settings.dir access burst ≡ slot_written settings history blocks
  unfolding slot_written
  slot_is burst e = rw (e, accessed, keyed, turns) refl
