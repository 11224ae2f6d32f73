-- What is sent and what is read in a timeslot depends on no other timeslot.
use Rattle.std.specs.Prelude.{ℕ, ℤ, ◌<◌, ◌≡◌, List, length, take, slice_index_or}
use Rattle.tetra_settings.specs.Slots.{timeslot_of}
use Rattle.tetra_settings.specs.declared.types.Settings.{Settings}
use Rattle.tetra_settings.specs.declared.blocks.SlotBlocks.{SlotBlocks}
use Rattle.tetra_session.specs.Time.{timeslot_mode}
use Rattle.tetra_session.specs.Sent.{slot_written}
use Rattle.tetra_session.specs.Heard.{slot_front, slot_reading}

-- equal on the slots of timeslot c
pub record SameOn {X : Type 0} (at c : ℕ) (a b : List X) : Type 0 where
  pub long : length a ≡ length b
  pub entries : (t : ℕ) (d : X) → t < length a → timeslot_of at t ≡ c → slice_index_or a t d ≡ slice_index_or b t d

-- settings that agree where timeslot c looks
pub record AgreeOn (c : ℕ) (s z : Settings) : Type 0 where
  pub dir : s.dir ≡ z.dir
  pub rows : s.rows ≡ z.rows
  pub colour : s.colour ≡ z.colour
  pub at : s.at ≡ z.at
  pub mode : timeslot_mode s c ≡ timeslot_mode z c

-- equal blocks of a timeslot give equal slots there
abbrev pub SentApart : Type 0
SentApart =
    (c : ℕ) (s z : Settings) (a b : List SlotBlocks) → AgreeOn c s z → SameOn s.at c a b
    → (t : ℕ) (d : SlotBlocks) → t < length a → timeslot_of s.at t ≡ c
    → slot_written s (take t a) (slice_index_or a t d) ≡ slot_written z (take t b) (slice_index_or b t d)

-- equal slots of a timeslot give equal fronts and equal readings there
pub record HeardApart : Type 0 where
  pub fronts : (c : ℕ) (s z : Settings) (a b : List (List ℤ)) → AgreeOn c s z → SameOn s.at c a b
      → (t : ℕ) (d : List ℤ) → t < length a → timeslot_of s.at t ≡ c
      → slot_front s (take t a) (slice_index_or a t d) ≡ slot_front z (take t b) (slice_index_or b t d)
  pub readings : (c : ℕ) (s z : Settings) (a b : List (List ℤ)) → AgreeOn c s z → SameOn s.at c a b
      → (t : ℕ) (d : List ℤ) → t < length a → timeslot_of s.at t ≡ c
      → slot_reading s (take t a) (slice_index_or a t d) ≡ slot_reading z (take t b) (slice_index_or b t d)
