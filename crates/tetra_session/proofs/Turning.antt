-- Receivers and senders, one slot on.
use Rattle.std.proofs.Common.{ℕ, ◌-◌, ◌+◌, ◌≤◌, ◌≡◌, List, [], ◌∷◌, ◌++◌, ℤ, length, set, get_or, ap, sym, ◌∙◌}
use Rattle.std.proofs.lemmas.List.{length_push}
use Rattle.tetra_scramble.specs.Key.{key_of}
use Rattle.tetra_settings.specs.Slots.{timeslot_of}
use Rattle.tetra_settings.specs.declared.types.Settings.{Settings}
use Rattle.tetra_settings.specs.declared.blocks.SlotBlocks.{SlotBlocks}
use Rattle.tetra_session.specs.Four.{FourStand}
use Rattle.tetra_session.specs.Heard.{GatherLaneStands, HeardStands, ReceiverStands, word_heard}
use Rattle.tetra_session.specs.Sent.{SpreadLaneStands, SentStands, SenderStands, block_sent}
use Rattle.tetra_session.specs.declared.gathering.GatherLane.{GatherLane}
use Rattle.tetra_session.specs.declared.gathering.GatherLane.TheVariants.{Still as GatherStill}
use Rattle.tetra_session.specs.declared.receiver.Receiver.{Receiver}
use Rattle.tetra_session.specs.declared.sender.Sender.{Sender}
use Rattle.tetra_session.specs.declared.spreading.SpreadLane.{SpreadLane}
use Rattle.tetra_session.specs.declared.spreading.SpreadLane.TheVariants.{Still}
use Rattle.tetra_session.specs.lemmas.FourSteps.{turn_now, four_turned}

module _ (settings : Settings) (history : List (List ℤ)) (old : Receiver) (c : ℕ) (h : ReceiverStands settings history old)
    (clocked : c ≡ timeslot_of old.settings.at old.turn) (low : 1 ≤ c) (high : c ≤ 4) (four : length old.lanes ≡ 4) where
  heard_before : FourStand GatherLaneStands (word_heard old.settings.dir (key_of old.settings.colour)) GatherStill old.settings history old.lanes
  heard_before = rw h.same h.timeslots

  -- the lane whose turn it is
  pub heard_now : (seen : GatherLane) → HeardStands GatherLaneStands old.settings old.turn history (get_or old.lanes (c - 1) seen)
  heard_now seen =
      turn_now GatherLaneStands (word_heard old.settings.dir (key_of old.settings.colour)) GatherStill old.settings old.turn history old.lanes c seen
      h.turn four clocked low high heard_before

  -- and the receiver behind it
  pub heard_turned : (soft : List ℤ) (lane : GatherLane) (new : Receiver) → new.settings ≡ old.settings → new.turn ≡ old.turn + 1 → new.lanes ≡ set old.lanes (c - 1) lane
      → HeardStands GatherLaneStands old.settings old.turn (history ++ soft ∷ []) lane → ReceiverStands settings (history ++ soft ∷ []) new
  heard_turned soft lane new s t l stands = record {
    same = s ∙ h.same;
    turn = t ∙ ap (λ k. k + 1) h.turn ∙ sym (length_push history soft);
    timeslots = rw (l, ← h.same)
        (four_turned GatherLaneStands (word_heard old.settings.dir (key_of old.settings.colour)) GatherStill old.settings old.turn history soft old.lanes c lane
        h.turn four clocked low high stands heard_before);
  }

module _ (settings : Settings) (history : List SlotBlocks) (old : Sender) (c : ℕ) (h : SenderStands settings history old)
    (clocked : c ≡ timeslot_of old.settings.at old.turn) (low : 1 ≤ c) (high : c ≤ 4) (four : length old.lanes ≡ 4) where
  sent_before : FourStand SpreadLaneStands block_sent Still old.settings history old.lanes
  sent_before = rw h.same h.timeslots

  -- the lane whose turn it is
  pub sent_now : (seen : SpreadLane) → SentStands SpreadLaneStands old.settings old.turn history (get_or old.lanes (c - 1) seen)
  sent_now seen = turn_now SpreadLaneStands block_sent Still old.settings old.turn history old.lanes c seen h.turn four clocked low high sent_before

  -- and the sender behind it
  pub sent_turned : (blocks : SlotBlocks) (lane : SpreadLane) (new : Sender) → new.settings ≡ old.settings → new.turn ≡ old.turn + 1 → new.lanes ≡ set old.lanes (c - 1) lane
      → SentStands SpreadLaneStands old.settings old.turn (history ++ blocks ∷ []) lane → SenderStands settings (history ++ blocks ∷ []) new
  sent_turned blocks lane new s t l stands = record {
    same = s ∙ h.same;
    turn = t ∙ ap (λ k. k + 1) h.turn ∙ sym (length_push history blocks);
    timeslots = rw (l, ← h.same)
        (four_turned SpreadLaneStands block_sent Still old.settings old.turn history blocks old.lanes c lane h.turn four clocked low high stands sent_before);
  }
