-- What is kept in a sender that stands for its slots is not refused.
use Rattle.std.proofs.Common.{ℕ, ◌-◌, ◌≤◌, ◌≡◌, ◌≢◌, Bool, true, false, List, Option, Some, None, ap, ◌∙◌, subst, lit≤}
use Rattle.std.specs.Prelude.{if◌then◌else◌, nat_lt, not, negsuc, slice_index_or}
use Rattle.std.proofs.lemmas.Bool.{and_from}
use Rattle.tetra_settings.specs.Slots.{letter_of_byte}
use Rattle.tetra_settings.specs.declared.types.Settings.{Settings}
use Rattle.tetra_settings.specs.declared.slots.Letter.{Letter}
use Rattle.tetra_settings.specs.declared.blocks.SlotBlocks.{SlotBlocks}
use Rattle.tetra_session.specs.Sent.{blocks_sent}
use Rattle.tetra_session.specs.Time.{depth, timeslot_mode}
use Rattle.tetra_c.specs.Blocks.{are_short, are_read, fields_fault, misfit_under}
use Rattle.tetra_c.specs.Colours.{is_out_of_range}
use Rattle.tetra_c.specs.Faults.{number_of, or_else}
use Rattle.tetra_c.specs.Senders.{SenderIs, is_lane, are_lanes, none_kept, state_fault, sender_fault, slot_fault}
use Rattle.tetra_c.specs.Settings.{has_modes, settings_fault, settings_of}
use Rattle.tetra_c.specs.declared.blocks.TetraBlocks.{TetraBlocks}
use Rattle.tetra_c.specs.declared.sender.TetraSender.{TetraSender}
use Rattle.tetra_c.specs.declared.settings.TetraSettings.{TetraSettings}
use Rattle.tetra_c.specs.declared.fault.Fault.{Fault}
use Rattle.tetra_c.specs.declared.fault.Fault.TheVariants.{Length, Bit, Colour, Mode, Place, Turn, Kept, Misfit, Field}
use Rattle.tetra_c.proofs.BlockRings.{stands_tested}

-- another fault, or none
abbrev pub Other : Option Fault → Type 0
Other None = Unit {0}
Other (Some Length) = Unit {0}
Other (Some Bit) = Unit {0}
Other (Some Colour) = Unit {0}
Other (Some Mode) = Unit {0}
Other (Some Place) = Unit {0}
Other (Some Turn) = Unit {0}
Other (Some Kept) = ⊥
Other (Some Misfit) = Unit {0}
Other (Some Field) = Unit {0}

pub either : (b : Bool) (x y : Option Fault) → Other x → Other y → Other (if b then x else y)
either true x y p q = p
either false x y p q = q

pub first : (x y : Option Fault) → Other x → Other y → Other (or_else x y)
first None y p q = q
first (Some fault) y p q = p

pub other_number : (fault : Fault) → Other (Some fault) → number_of fault ≢ negsuc 6
other_number Length p e = cc
other_number Bit p e = cc
other_number Colour p e = cc
other_number Mode p e = cc
other_number Place p e = cc
other_number Turn p e = cc
other_number Kept p e = absurd p
other_number Misfit p e = cc
other_number Field p e = cc

fields_other : (blocks : TetraBlocks) → Other (fields_fault blocks)
fields_other blocks =
    either (not (are_short blocks)) (Some Length) (if not (are_read blocks) then Some Bit else None) tt
    (either (not (are_read blocks)) (Some Bit) None tt tt)

pub settings_other : (settings : TetraSettings) → Other (settings_fault settings)
unfolding settings_fault
settings_other settings =
    let place = if nat_lt 4319 settings.at then Some Place else None in
    let modes = if not (has_modes settings) then Some Mode else place in
    either (is_out_of_range settings.colour) (Some Colour) modes tt
    (either (not (has_modes settings)) (Some Mode) place tt (either (nat_lt 4319 settings.at) (Some Place) None tt tt))

misfit_other : (settings : Settings) (t : ℕ) (blocks : TetraBlocks) (letter : Option Letter) → Other (misfit_under settings t blocks letter)
misfit_other settings t blocks None = tt
misfit_other settings t blocks (Some letter) = either _ None (Some Misfit) tt tt

state_other : (sender : TetraSender) → are_lanes (settings_of sender.settings) sender.lanes ≡ true → Other (state_fault sender)
state_other sender kept = rw kept (either _ (Some Turn) None tt tt)

module _ (settings : Settings) (history : List SlotBlocks) (sender : TetraSender) (h : SenderIs settings history sender) where
  lane : (c : ℕ) → 1 ≤ c → c ≤ 4 → is_lane settings sender.lanes c ≡ true
  lane c low high =
      stands_tested (depth (timeslot_mode settings c)) (blocks_sent settings c history) (slice_index_or sender.lanes (c - 1) none_kept) (h.timeslots c low high)

  lanes : are_lanes settings sender.lanes ≡ true
  lanes = and_from _ _ (and_from _ _ (and_from _ _ (lane 1 (lit≤ tt) (lit≤ tt)) (lane 2 (lit≤ tt) (lit≤ tt))) (lane 3 (lit≤ tt) (lit≤ tt))) (lane 4 (lit≤ tt) (lit≤ tt))

  pub never_kept : (blocks : TetraBlocks) (fault : Fault) → slot_fault sender blocks ≡ Some fault → number_of fault ≢ negsuc 6
  never_kept blocks fault e =
      let own : are_lanes (settings_of sender.settings) sender.lanes ≡ true = ap (λ s. are_lanes s sender.lanes) h.same ∙ lanes in
      other_number fault (subst Other e
      (first (fields_fault blocks) _ (fields_other blocks)
      (first (sender_fault sender) _ (first (settings_fault sender.settings) _ (settings_other sender.settings) (state_other sender own))
      (misfit_other (settings_of sender.settings) sender.turn blocks (letter_of_byte blocks.letter)))))
