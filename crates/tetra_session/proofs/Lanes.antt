-- What the lane of a timeslot of a sender keeps, one slot on.
use Rattle.std.proofs.Common.{ℕ, ◌≡◌, ◌≢◌, List, Bool, [], ◌∷◌, ◌++◌, length}
use Rattle.tetra_settings.specs.Slots.{timeslot_of, mode_of, use_of}
use Rattle.tetra_settings.specs.declared.types.Mode.{Mode}
use Rattle.tetra_settings.specs.declared.types.Settings.{Settings}
use Rattle.tetra_settings.specs.declared.slots.SlotUse.TheVariants.{Traffic as TrafficUse}
use Rattle.tetra_settings.specs.declared.blocks.SlotBlocks.{SlotBlocks}
use Rattle.tetra_session.specs.Sent.{SentStands, block_sent, blocks_sent, data_block, load_of}
use Rattle.tetra_session.specs.Time.{depth}
use Rattle.tetra_session.specs.lemmas.FourSteps.{turn_silent, turn_taken}

module _ {L : Type 0} (Stands : ℕ → List (List Bool) → L → Type 0) (settings : Settings) (t : ℕ) (history : List SlotBlocks) (x : SlotBlocks) (old : L)
    (turn : t ≡ length history) (h : SentStands Stands settings t history old) where
  -- the slot carries no traffic
  pub lane_silent : ((blocks more : List (List Bool)) (lane : L) → Stands 0 blocks lane → Stands 0 more lane) → use_of settings t ≢ TrafficUse
      → SentStands Stands settings t (history ++ x ∷ []) old
  lane_silent idle silent = turn_silent Stands block_sent settings t history x old turn idle silent h

  module _ (mode : Mode) (moded : mode ≡ mode_of settings t) where
    -- at the mode of the timeslot
    pub lane_now : Stands (depth mode) (blocks_sent settings (timeslot_of settings.at t) history) old
    lane_now = rw moded h

    -- the slot carries the next load of its timeslot
    pub lane_taken : (load : List Bool) (new : L) → use_of settings t ≡ TrafficUse → load_of x.body ≡ load
        → ((before : List (List Bool)) → Stands (depth mode) before old → Stands (depth mode) (before ++ data_block mode load ∷ []) new)
        → SentStands Stands settings t (history ++ x ∷ []) new
    lane_taken load new traffic loaded step =
        let before = blocks_sent settings (timeslot_of settings.at t) history in
        let taken : Stands (depth (mode_of settings t)) (before ++ data_block (mode_of settings t) load ∷ []) new = rw (← moded) (step before lane_now) in
        turn_taken Stands block_sent settings t history x new turn traffic (rw loaded taken)
