-- What decoding reads and writes: slots of 510 bytes, and reading records.
use Rattle.std.specs.Prelude.{◌≡◌, ℕ, List, ◌++◌, length, map}
use Rattle.tetra_settings.specs.declared.types.Settings.{Settings}
use Rattle.tetra_settings.specs.declared.types.Form.{Form}
use Rattle.tetra_settings.specs.declared.types.Form.TheVariants.{Plain, Audit}
use Rattle.tetra_engine.specs.declared.status.Status.TheVariants.{Done, Input}
use Rattle.tetra_session.specs.Heard.{slot_reading}
use Rattle.tetra_records.specs.Readings.{reading_spelling}
use Rattle.tetra_records.specs.declared.faults.RecordFault.TheVariants.{Truncated}
use Rattle.tetra_engine.specs.Shapes.{Shape}
use Rattle.tetra_engine.specs.Slots.{soft_values}

-- a record, behind the bytes of its slot where it is to be audited
abbrev pub framed : Form → List ℕ → List ℕ → List ℕ
framed Plain slot bytes = bytes
framed Audit slot bytes = slot ++ bytes

-- what is written for a slot behind those before it
abbrev pub decoded : Settings → List (List ℕ) → List ℕ → List ℕ
decoded settings before slot =
    framed settings.form slot
    (reading_spelling settings.form (slot_reading settings (map soft_values before) (soft_values slot)))

-- an input is a slot of 510 bytes; fewer are cut off
abbrev pub decoding : Settings → Shape (List ℕ)
decoding settings = record {
  Fits = λ before slot. length slot ≡ 510;
  spelling = λ slot. slot;
  Stops = λ before bytes status. status ≡ Input (length before) Truncated;
  out = decoded settings;
  done = λ _. Done;
}
