-- The mode of a timeslot, over how many slots its blocks are spread, and which slots of a history are its own.
use Rattle.std.specs.Prelude.{ℕ, ◌≡◌, ◌⊎◌, ◌+◌, ◌-◌, Bool, ◌&&◌, cond, nat_eq, nat_lt, List, [], ◌∷◌, slice_index_or}
use Rattle.tetra_settings.specs.Slots.{timeslot_of, frame_of}
use Rattle.tetra_settings.specs.declared.types.Span.{Span}
use Rattle.tetra_settings.specs.declared.types.Span.TheVariants.{One, Four, Eight}
use Rattle.tetra_settings.specs.declared.types.Mode.{Mode}
use Rattle.tetra_settings.specs.declared.types.Mode.TheVariants.{Sig, Cb, D72, D48, D24, Speech}
use Rattle.tetra_settings.specs.declared.types.Settings.{Settings}

-- the mode of timeslot c, from 1 to 4
abbrev pub timeslot_mode : Settings → ℕ → Mode
timeslot_mode settings c = slice_index_or settings.modes (c - 1) Sig

abbrev pub span_slots : Span → ℕ
span_slots One = 1
span_slots Four = 4
span_slots Eight = 8

-- over how many traffic slots of its timeslot a block is spread; 0 where it is not
abbrev pub depth : Mode → ℕ
depth Sig = 0
depth Cb = 0
depth D72 = 0
depth (D48 span) = span_slots span
depth (D24 span) = span_slots span
depth Speech = 0

-- such a number
abbrev pub MayBeDepth : ℕ → Type 0
MayBeDepth n = (n ≡ 0) ⊎ (n ≡ 1) ⊎ (n ≡ 4) ⊎ (n ≡ 8)

-- slot t is one of timeslot c, in frames 1 to 17
abbrev pub counts : ℕ → ℕ → ℕ → Bool
counts at c t = nat_eq (timeslot_of at t) c && nat_lt (frame_of at t) 18

-- the entries whose number meets a condition; the first has number t
abbrev pub picked : {X : Type 0} → (ℕ → Bool) → ℕ → List X → List X
picked meets t [] = []
picked meets t (x ∷ xs) = cond (meets t) (x ∷ picked meets (t + 1) xs) (picked meets (t + 1) xs)

-- the entries of the slots of timeslot c in frames 1 to 17, in order
unfoldable pub own : {X : Type 0} → ℕ → ℕ → List X → List X
own at c history = picked (counts at c) 0 history
