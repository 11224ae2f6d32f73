-- The time of a slot, and which letters it may carry. Slots count from 0; timeslots, frames and multiframes from 1
-- (EN 300 392-2 clause 9.3: four timeslots to a frame, 18 frames to a multiframe, 60 multiframes to a cycle).
use Rattle.std.specs.Prelude.{ℕ, ◌+◌, ◌-◌, ◌/◌, ◌%◌, nat_eq, Bool, true, false, List, [], ◌∷◌, find, filter, slice_index_or, if◌then◌else◌}
use Rattle.std.specs.declared.option.Option.{Option}
use Rattle.tetra_settings.specs.declared.types.Dir.{Dir}
use Rattle.tetra_settings.specs.declared.types.Dir.TheVariants.{Dl, Ul}
use Rattle.tetra_settings.specs.declared.types.Mode.{Mode}
use Rattle.tetra_settings.specs.declared.types.Mode.TheVariants.{Sig, Cb, D72, D48, D24, Speech}
use Rattle.tetra_settings.specs.declared.types.Settings.{Settings}
use Rattle.tetra_settings.specs.declared.slots.Letter.{Letter}
use Rattle.tetra_settings.specs.declared.slots.Letter.TheVariants.{F, H, S, T, P, Q, C}
use Rattle.tetra_settings.specs.declared.slots.SlotUse.{SlotUse}
use Rattle.tetra_settings.specs.declared.slots.SlotUse.TheVariants.{Signalling, Control, Traffic}

-- the place of slot t in the cycle of 4,320 slots, where slot 0 has place at
unfoldable pub place_of : ℕ → ℕ → ℕ
place_of at t = (at + t) % 4320

unfoldable pub timeslot_of : ℕ → ℕ → ℕ
timeslot_of at t = 1 + place_of at t % 4

unfoldable pub frame_of : ℕ → ℕ → ℕ
frame_of at t = 1 + place_of at t / 4 % 18

unfoldable pub multiframe_of : ℕ → ℕ → ℕ
multiframe_of at t = 1 + place_of at t / 72

-- the mode of the timeslot of slot t
unfoldable pub mode_of : Settings → ℕ → Mode
mode_of settings t = slice_index_or settings.modes (timeslot_of settings.at t - 1) Sig

-- what a slot of a traffic timeslot carries in a frame: frame 18 is signalling
abbrev pub traffic_in : ℕ → SlotUse
traffic_in frame = if nat_eq frame 18 then Signalling else Traffic

-- what a slot of a timeslot carries in a frame
abbrev pub use_in : Mode → ℕ → SlotUse
use_in Sig frame = Signalling
use_in Cb frame = Control
use_in D72 frame = traffic_in frame
use_in (D48 span) frame = traffic_in frame
use_in (D24 span) frame = traffic_in frame
use_in Speech frame = traffic_in frame

-- what slot t carries
unfoldable pub use_of : Settings → ℕ → SlotUse
use_of settings t = use_in (mode_of settings t) (frame_of settings.at t)

-- a direction has the use: control bursts are uplink only
abbrev pub HasUse : Dir → SlotUse → Type 0
HasUse Dl Signalling = Unit {0}
HasUse Dl Control = ⊥
HasUse Dl Traffic = Unit {0}
HasUse Ul slot = Unit {0}

-- the byte of a letter
abbrev pub byte_of : Letter → ℕ
byte_of F = 70
byte_of H = 72
byte_of S = 83
byte_of T = 84
byte_of P = 80
byte_of Q = 81
byte_of C = 67

abbrev pub letters : List Letter
letters = F ∷ H ∷ S ∷ T ∷ P ∷ Q ∷ C ∷ []

-- the letter of a byte
unfoldable pub letter_of_byte : ℕ → Option Letter
letter_of_byte byte = find (λ letter. nat_eq (byte_of letter) byte) letters

-- which letters a slot may carry
abbrev pub is_allowed : Dir → SlotUse → Letter → Bool
is_allowed dir Signalling F = true
is_allowed Dl Signalling H = true
is_allowed Dl Signalling S = true
is_allowed Ul Control C = true
is_allowed dir Traffic T = true
is_allowed dir Traffic P = true
is_allowed dir Traffic Q = true
is_allowed dir slot letter = false

-- the letters that a slot may carry, in their order
abbrev pub letters_of : Dir → SlotUse → List Letter
letters_of dir slot = filter (is_allowed dir slot) letters
