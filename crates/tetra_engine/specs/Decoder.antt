-- What a decoder stands for.
use Rattle.std.specs.Prelude.{◌≡◌, ◌<◌, ℕ, List, length, map}
use Rattle.tetra_engine.specs.declared.decoder.Decoder.{Decoder}
use Rattle.tetra_engine.specs.Intake.{IntakeStands, HoldsSlot}
use Rattle.tetra_engine.specs.Slots.{soft_values}

-- it has read and written these slots
pub record DecoderStands (d : Decoder) (before : List (List ℕ)) : Type 0 where
  pub intake : IntakeStands d.intake (map soft_values before)

-- and it holds the next one
pub record DecoderHolds (d : Decoder) (before : List (List ℕ)) (slot : List ℕ) : Type 0 where
  pub stands : DecoderStands d before
  pub few : length before < 16777216
  pub holds : HoldsSlot d.intake
  pub bytes : d.intake.bytes ≡ slot
