-- What an audit reads and writes: slots of 510 bytes with a reading record behind each, and a line for each.
use Rattle.std.specs.Prelude.{◌≡◌, ℕ, List, [], ◌∷◌, ◌++◌, length, map, ℤ}
use Rattle.tetra_settings.specs.declared.types.Settings.{Settings}
use Rattle.tetra_engine.specs.declared.status.Status.{Status}
use Rattle.tetra_engine.specs.declared.status.Status.TheVariants.{Done, Refused, Input}
use Rattle.tetra_records.specs.declared.faults.RecordFault.TheVariants.{Truncated}
use Rattle.tetra_session.specs.declared.front.Front.{Front}
use Rattle.tetra_session.specs.Heard.{slot_front}
use Rattle.tetra_audit.specs.declared.verdict.SlotVerdict.{SlotVerdict}
use Rattle.tetra_audit.specs.declared.verdict.SlotVerdict.TheVariants.{Agrees, Kind, Field}
use Rattle.tetra_audit.specs.Fields.{claim_length}
use Rattle.tetra_audit.specs.Verdicts.{slot_verdict}
use Rattle.tetra_engine.specs.Shapes.{Shape}
use Rattle.tetra_engine.specs.Slots.{soft_values}
use Rattle.tetra_engine.specs.Verdicts.{verdict_line}

-- a slot and what is claimed to be its reading record
abbrev pub Claimed : Type 0
Claimed = List ℕ × List ℕ

-- the soft values of the slots
abbrev pub slots_of : List Claimed → List (List ℤ)
slots_of inputs = map (λ input. soft_values input.0) inputs

-- what a receiver behind the slots before takes from a slot
abbrev pub front_at : Settings → List Claimed → List ℕ → Front
front_at settings before slot = slot_front settings (slots_of before) (soft_values slot)

-- the verdict on a slot behind those before it
abbrev pub verdict_at : Settings → List Claimed → Claimed → SlotVerdict
verdict_at settings before input = slot_verdict settings.rows (front_at settings before input.0) input.1

-- the number of a slot, where it is refused
abbrev pub refused_by : ℕ → SlotVerdict → List ℕ
refused_by slot Agrees = []
refused_by slot Kind = slot ∷ []
refused_by slot (Field index why) = slot ∷ []

-- the numbers of the slots that are refused
abbrev pub refused_slots : Settings → List Claimed → List Claimed → List ℕ
refused_slots settings before [] = []
refused_slots settings before (input ∷ inputs) =
    refused_by (length before) (verdict_at settings before input)
    ++ refused_slots settings (before ++ input ∷ []) inputs

-- the status at the end, by the slots that were refused
abbrev pub audit_status : List ℕ → Status
audit_status [] = Done
audit_status (slot ∷ slots) = Refused slot (length (slot ∷ slots))

-- an input is a slot of 510 bytes, and as many bytes as its reading record has with certificates; fewer are cut off
abbrev pub auditing : Settings → Shape Claimed
auditing settings = record {
  Fits = λ before input. (length input.0 ≡ 510) × (length input.1 ≡ claim_length (front_at settings before input.0));
  spelling = λ input. input.0 ++ input.1;
  Stops = λ before bytes status. status ≡ Input (length before) Truncated;
  out = λ before input. verdict_line (length before) (verdict_at settings before input);
  done = λ inputs. audit_status (refused_slots settings [] inputs);
}
