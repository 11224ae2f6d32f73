-- The numbers of the six channels, as they are written in their types.
use Rattle.std.specs.Prelude.{◌≡◌, ℕ}
use Rattle.tetra_puncture.specs.Places.{IsTwoThirds}
use Rattle.tetra_channels.specs.Channels.{Channel, IsChannel, coded, bsch, hu, half, full, data48, data24}

-- the numbers fit together, and are those of this row
pub record IsAlias (sound : Type 0) (par k a inv : ℕ) (channel : Channel) : Type 0 where
  pub fits : IsChannel sound par k a inv channel.plan
  pub row : coded par a channel.plan ≡ channel

pub record AliasesAreChannels : Type 0 where
  pub bsch_is : IsAlias (IsTwoThirds 80 120) 16 120 11 11 bsch
  pub hu_is : IsAlias (IsTwoThirds 112 168) 16 168 13 13 hu
  pub half_is : IsAlias (IsTwoThirds 144 216) 16 216 101 77 half
  pub full_is : IsAlias (IsTwoThirds 288 432) 16 432 103 151 full
  pub data48_is : IsAlias (Unit {0}) 0 432 103 151 data48
  pub data24_is : IsAlias (Unit {0}) 0 432 103 151 data24
