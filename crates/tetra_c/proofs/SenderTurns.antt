-- A sender as C has it, one slot on.
use Rattle.std.proofs.Common.{ℕ, ◌-◌, ◌+◌, ◌≤◌, ◌≡◌, List, [], ◌∷◌, ◌++◌, length, set, get_or, arith, ap, sym, ◌∙◌}
use Rattle.std.specs.Prelude.{slice_index_or}
use Rattle.std.proofs.lemmas.List.{length_push}
use Rattle.tetra_settings.specs.Slots.{timeslot_of}
use Rattle.tetra_settings.specs.declared.types.Settings.{Settings}
use Rattle.tetra_settings.specs.declared.blocks.SlotBlocks.{SlotBlocks}
use Rattle.tetra_session.specs.Four.{FourStand}
use Rattle.tetra_session.specs.Sent.{SentStands, block_sent}
use Rattle.tetra_session.specs.Time.{own, depth, timeslot_mode}
use Rattle.tetra_session.specs.lemmas.FourSteps.{turn_now, four_turned}
use Rattle.tetra_c.specs.KeptBlocks.{KeptStands}
use Rattle.tetra_c.specs.Senders.{SenderIs, AreClear, none_kept}
use Rattle.tetra_c.specs.Settings.{settings_of}
use Rattle.tetra_c.specs.declared.kept_blocks.TetraKeptBlocks.{TetraKeptBlocks}
use Rattle.tetra_c.specs.declared.sender.TetraSender.{TetraSender}
use Rattle.tetra_c.proofs.BlockRings.{keeps_none}

pub begun : (settings : Settings) (lanes : List TetraKeptBlocks) → AreClear lanes → FourStand KeptStands block_sent none_kept settings [] lanes
unfolding own
begun settings lanes clear = λ c low high.
    let none = clear (c - 1) (omega arith) in
    λ some. keeps_none (depth (timeslot_mode settings c)) (slice_index_or lanes (c - 1) none_kept) some none.0 none.1

module _ (settings : Settings) (history : List SlotBlocks) (old : TetraSender) (c : ℕ) (h : SenderIs settings history old)
    (clocked : c ≡ timeslot_of settings.at old.turn) (low : 1 ≤ c) (high : c ≤ 4) (four : length old.lanes ≡ 4) where
  -- the lane whose turn it is
  pub sent_now : (seen : TetraKeptBlocks) → SentStands KeptStands settings old.turn history (get_or old.lanes (c - 1) seen)
  sent_now seen = turn_now KeptStands block_sent none_kept settings old.turn history old.lanes c seen h.turn four clocked low high h.timeslots

  -- and the sender behind it
  pub sent_turned : (blocks : SlotBlocks) (lane : TetraKeptBlocks) (new : TetraSender) → new.settings ≡ old.settings → new.turn ≡ old.turn + 1
      → new.lanes ≡ set old.lanes (c - 1) lane → SentStands KeptStands settings old.turn (history ++ blocks ∷ []) lane
      → SenderIs settings (history ++ blocks ∷ []) new
  sent_turned blocks lane new s t l stands = record {
    same = ap settings_of s ∙ h.same;
    turn = t ∙ ap (λ k. k + 1) h.turn ∙ sym (length_push history blocks);
    timeslots = rw l (four_turned KeptStands block_sent none_kept settings old.turn history blocks old.lanes c lane h.turn four clocked low high stands h.timeslots);
  }
