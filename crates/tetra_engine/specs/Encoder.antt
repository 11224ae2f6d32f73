-- What an encoder stands for.
use Rattle.std.specs.Prelude.{◌≡◌, ◌<◌, List, length, Some}
use Rattle.tetra_settings.specs.declared.blocks.SlotBlocks.{SlotBlocks}
use Rattle.tetra_settings.specs.Blocks.{Fits}
use Rattle.tetra_settings.specs.Validity.{IsValid}
use Rattle.tetra_engine.specs.declared.encoder.Encoder.{Encoder}
use Rattle.tetra_session.specs.Sent.{SenderStands}

-- it has read and written these blocks
pub record EncoderStands (e : Encoder) (before : List SlotBlocks) : Type 0 where
  pub valid : IsValid e.settings
  pub sender : SenderStands e.settings before e.sender

-- and it holds these blocks of the next slot
pub record EncoderHolds (e : Encoder) (before : List SlotBlocks) (blocks : SlotBlocks) : Type 0 where
  pub stands : EncoderStands e before
  pub few : length before < 16777216
  pub held : e.blocks ≡ Some blocks
  pub fits : Fits e.settings (length before) blocks
