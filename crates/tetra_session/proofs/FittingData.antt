-- What blocks that fit a slot of data or of speech are.
use Rattle.std.proofs.Common.{ℕ, ◌≡◌, ◌≢◌, ◌<◌, ◌⊎◌, inl, inr, List, Bool, length, arith, refl}
use Rattle.tetra_settings.specs.Blocks.{Fits, IsTrafficMode, letter_of, load_bits}
use Rattle.tetra_settings.specs.Slots.{use_of, mode_of}
use Rattle.tetra_settings.specs.declared.types.Mode.{Mode}
use Rattle.tetra_settings.specs.declared.types.Mode.TheVariants.{Sig, Cb, D72, D48, D24, Speech}
use Rattle.tetra_settings.specs.declared.types.Settings.{Settings}
use Rattle.tetra_settings.specs.declared.slots.Letter.{Letter}
use Rattle.tetra_settings.specs.declared.slots.Letter.TheVariants.{F, H, S, T, P, Q, C}
use Rattle.tetra_settings.specs.declared.slots.SlotUse.TheVariants.{Traffic as TrafficUse}
use Rattle.tetra_settings.specs.declared.blocks.Body.{Body}
use Rattle.tetra_settings.specs.declared.blocks.Body.TheVariants.{Full, Halves, Sync, Traffic, Stolen, Both, Control}
use Rattle.tetra_settings.specs.declared.blocks.SlotBlocks.{SlotBlocks}
use Rattle.tetra_session.specs.Sent.{load_of}
use Rattle.tetra_session.proofs.Fitting.{fits_traffic, fits_stolen, fits_both, full_no_traffic, halves_no_traffic, sync_no_traffic, subslots_no_traffic}

-- a mode of traffic carries this load in a slot of this letter
abbrev pub CarriesLoad : Mode → Letter → List Bool → Type 0
CarriesLoad mode letter load = IsTrafficMode mode × (length load ≡ load_bits mode letter)

speech_few : (letter : Letter) → load_bits Speech letter < 432
speech_few F = omega arith
speech_few H = omega arith
speech_few S = omega arith
speech_few T = omega arith
speech_few P = omega arith
speech_few Q = omega arith
speech_few C = omega arith

-- a load of 432 bits is one of unprotected data
pub raw_mode : (mode : Mode) (letter : Letter) (load : List Bool) → CarriesLoad mode letter load → length load ≡ 432 → mode ≡ D72
raw_mode D72 letter load h e = refl
raw_mode (D48 span) letter load h e = absurd (omega (arith, h.1, e))
raw_mode (D24 span) letter load h e = absurd (omega (arith, h.1, e))
raw_mode Sig letter load h e = absurd h.0
raw_mode Cb letter load h e = absurd h.0
raw_mode Speech letter load h e = absurd (omega (arith, h.1, e, speech_few letter))

-- as many bits as two frames of speech have, or one, are none of data
record IsNoData (n : ℕ) : Type 0 where
  raw : n ≢ 432
  data_48 : n ≢ 288
  data_24 : n ≢ 144

no_data : (n : ℕ) → (n ≡ 274) ⊎ (n ≡ 137) → IsNoData n
no_data n (inl two) = record { raw = λ e. omega arith; data_48 = λ e. omega arith; data_24 = λ e. omega arith }
no_data n (inr one) = record { raw = λ e. omega arith; data_48 = λ e. omega arith; data_24 = λ e. omega arith }

-- a load of 274 or of 137 bits is one of speech
pub speech_mode : (mode : Mode) (letter : Letter) (load : List Bool) → CarriesLoad mode letter load → (length load ≡ 274) ⊎ (length load ≡ 137) → mode ≡ Speech
speech_mode Speech letter load h e = refl
speech_mode D72 letter load h e = absurd ((no_data (length load) e).raw h.1)
speech_mode (D48 span) letter load h e = absurd ((no_data (length load) e).data_48 h.1)
speech_mode (D24 span) letter load h e = absurd ((no_data (length load) e).data_24 h.1)
speech_mode Sig letter load h e = absurd h.0
speech_mode Cb letter load h e = absurd h.0

-- the load of a traffic slot
pub fits_load : (settings : Settings) (t : ℕ) (blocks : SlotBlocks) → Fits settings t blocks → use_of settings t ≡ TrafficUse → (body : Body) → blocks.body ≡ body
    → CarriesLoad (mode_of settings t) (letter_of body) (load_of body)
fits_load settings t blocks fits u (Traffic load) e = let there = fits_traffic settings t blocks fits load e in (there.1, there.2)
fits_load settings t blocks fits u (Stolen first load) e = let there = fits_stolen settings t blocks fits first load e in (there.1, there.3)
fits_load settings t blocks fits u (Both first second load) e = let there = fits_both settings t blocks fits first second load e in (there.1, there.4)
fits_load settings t blocks fits u (Full block) e = absurd (full_no_traffic settings t blocks fits block e u)
fits_load settings t blocks fits u (Halves first second) e = absurd (halves_no_traffic settings t blocks fits first second e u)
fits_load settings t blocks fits u (Sync sync second) e = absurd (sync_no_traffic settings t blocks fits sync second e u)
fits_load settings t blocks fits u (Control first second) e = absurd (subslots_no_traffic settings t blocks fits first second e u)
