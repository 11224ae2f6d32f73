-- Which settings are valid.
use Rattle.std.specs.Prelude.{ℕ, ◌≤◌, slice_index_or}
use Rattle.tetra_scramble.specs.Colour.{IsColour}
use Rattle.tetra_settings.specs.declared.types.Dir.{Dir}
use Rattle.tetra_settings.specs.declared.types.Dir.TheVariants.{Dl, Ul}
use Rattle.tetra_settings.specs.declared.types.Mode.{Mode}
use Rattle.tetra_settings.specs.declared.types.Mode.TheVariants.{Sig, Cb, D72, D48, D24, Speech}
use Rattle.tetra_settings.specs.declared.types.Settings.{Settings}

-- a direction has the mode: control bursts are uplink only
abbrev pub HasMode : Dir → Mode → Type 0
HasMode Dl Sig = Unit {0}
HasMode Dl Cb = ⊥
HasMode Dl D72 = Unit {0}
HasMode Dl (D48 span) = Unit {0}
HasMode Dl (D24 span) = Unit {0}
HasMode Dl Speech = Unit {0}
HasMode Ul mode = Unit {0}

-- the colour and each number are in their ranges; every u64 may be drawn from
pub record IsInRanges (settings : Settings) : Type 0 where
  pub colour : IsColour settings.colour
  pub at : settings.at ≤ 4319
  pub max : (1 ≤ settings.max) × (settings.max ≤ 16777216)
  pub slots : (1 ≤ settings.slots) × (settings.slots ≤ 1000000)
  pub damage : settings.damage ≤ 510

-- all is in range, and the direction has the mode of each timeslot
pub record IsValid (settings : Settings) : Type 0 where
  pub ranges : IsInRanges settings
  pub modes : (i : ℕ) → HasMode settings.dir (slice_index_or settings.modes i Sig)
