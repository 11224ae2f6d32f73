-- What encoding reads and writes: block records, and slots of 510 bytes.
use Rattle.std.specs.Prelude.{◌≡◌, ℕ, List, ◌<◌, length}
use Rattle.std.proofs.Common.{arith}
use Rattle.tetra_settings.specs.declared.types.Settings.{Settings}
use Rattle.tetra_settings.specs.declared.blocks.SlotBlocks.{SlotBlocks}
use Rattle.tetra_settings.specs.Blocks.{Fits}
use Rattle.tetra_session.specs.Sent.{slot_written}
use Rattle.tetra_engine.specs.declared.status.Status.{Status}
use Rattle.tetra_engine.specs.declared.status.Status.TheVariants.{Done, Refused, Words, Input, Read, Write, TooLong}
use Rattle.tetra_records.specs.Records.{why as record_why, NoneBegins}
use Rattle.tetra_records.specs.Spelling.{spelling}
use Rattle.tetra_engine.specs.Shapes.{Shape}
use Rattle.tetra_engine.specs.Slots.{slot_bytes}

-- how a run ends where bytes, at least one, begin no record of slot n
abbrev pub EncodingStops : Settings → ℕ → List ℕ → Status → Type 0
EncodingStops settings n bytes (Input slot why) =
    (slot ≡ n) × NoneBegins settings n bytes × (record_why settings n bytes ≡ why)
EncodingStops settings n bytes Done = ⊥
EncodingStops settings n bytes (Refused slot count) = ⊥
EncodingStops settings n bytes (Words index why) = ⊥
EncodingStops settings n bytes Read = ⊥
EncodingStops settings n bytes Write = ⊥
EncodingStops settings n bytes TooLong = ⊥

-- a record is not empty
pub spelling-some : (blocks : SlotBlocks) → 0 < length (spelling blocks)
unfolding spelling
spelling-some blocks = omega arith

-- an input is the record of blocks that fit their slot
abbrev pub encoding : Settings → Shape SlotBlocks
encoding settings = record {
  Fits = λ before blocks. Fits settings (length before) blocks;
  spelling = spelling;
  Stops = λ before. EncodingStops settings (length before);
  out = λ before blocks. slot_bytes (slot_written settings before blocks);
  done = λ _. Done;
}
