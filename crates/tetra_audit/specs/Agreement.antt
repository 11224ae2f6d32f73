-- What agreement says: the claim spells the defined readings, but that other tables that the rules
-- accept may stand in place of the certificates. So each byte outside the certificates is the defined
-- one. This project's own.
use Rattle.std.specs.Prelude.{◌≡◌, ◌↔◌, ℕ, ◌+◌, ◌<◌, List, [], ◌∷◌, length, drop, slice_index, None, Some, ℤ}
use Rattle.std.specs.List.{All}
use Rattle.std.specs.declared.option.Option.{Option}
use Rattle.tetra_bits.specs.Soft.{AllSoft}
use Rattle.tetra_puncture.specs.Best.{best_of}
use Rattle.tetra_puncture.specs.Plan.{CodePlan}
use Rattle.tetra_puncture.specs.Rules.{IsAccepted}
use Rattle.tetra_puncture.specs.Spread.{spread_values}
use Rattle.tetra_records.specs.Readings.{reading_spelling}
use Rattle.tetra_rm.specs.declared.table.Rows.{Rows}
use Rattle.tetra_session.specs.Fronts.{IsFront}
use Rattle.tetra_session.specs.Readers.{CodedPart, reader, coded_part, field_reading}
use Rattle.tetra_session.specs.Heard.{slot_front, slot_reading}
use Rattle.tetra_session.specs.declared.front.FrontField.{FrontField}
use Rattle.tetra_session.specs.declared.front.Front.{Front}
use Rattle.tetra_settings.specs.Validity.{IsValid}
use Rattle.tetra_settings.specs.declared.readings.Field.{Field}
use Rattle.tetra_settings.specs.declared.types.Form.TheVariants.{Audit}
use Rattle.tetra_settings.specs.declared.types.Settings.{Settings}
use Rattle.tetra_audit.specs.Fields.{claim_length}
use Rattle.tetra_audit.specs.Verdicts.{slot_verdict}
use Rattle.tetra_audit.specs.declared.verdict.SlotVerdict.TheVariants.{Agrees}

-- a table of a row of 16 before each step and one behind the last, which the rules accept beside the
-- first-least message
pub record IsCertificate (plan : CodePlan) (soft : List ℤ) (table : List (List ℕ)) : Type 0 where
  pub rows : length table ≡ plan.steps + 1
  pub states : All (λ row. length row ≡ 16) table
  pub accepted : IsAccepted plan (spread_values plan soft) (best_of plan soft) table

-- such a table where a trellis reads some of the field and it has values, and else none
abbrev pub AreCertified : Option CodedPart → Option (List ℤ) → Option (List (List ℕ)) → Type 0
AreCertified (Some part) (Some soft) (Some table) = IsCertificate part.plan (drop part.before soft) table
AreCertified (Some part) (Some soft) None = ⊥
AreCertified (Some part) None None = Unit {0}
AreCertified (Some part) None (Some table) = ⊥
AreCertified None values None = Unit {0}
AreCertified None values (Some table) = ⊥

-- the reading is the defined one, but for its potentials
pub record IsRight (rows : List ℕ) (field : FrontField) (claimed : Field) : Type 0 where
  pub name : claimed.name ≡ field.name
  pub mark : claimed.reading.mark ≡ (field_reading rows field.name field.soft).mark
  pub metric : claimed.reading.metric ≡ (field_reading rows field.name field.soft).metric
  pub bits : claimed.reading.bits ≡ (field_reading rows field.name field.soft).bits
  pub potentials : AreCertified (coded_part (reader field.name)) field.soft claimed.reading.potentials

abbrev pub AreRight : List ℕ → List FrontField → List Field → Type 0
AreRight rows [] [] = Unit {0}
AreRight rows [] (claimed ∷ more) = ⊥
AreRight rows (field ∷ fields) [] = ⊥
AreRight rows (field ∷ fields) (claimed ∷ more) = IsRight rows field claimed × AreRight rows fields more

-- the claim spells right readings of all fields behind the letter
pub record IsRightClaim (rows : List ℕ) (front : Front) (claim : List ℕ) : Type 0 where
  pub claimed : List Field
  pub right : AreRight rows front.fields.items claimed
  pub spelled : claim ≡ reading_spelling Audit (record { letter = front.letter; fields = record { items = claimed } })

-- numbers that are bytes
abbrev pub AreBytes : List ℕ → Type 0
AreBytes bytes = (k : ℕ) → slice_index bytes k < 256

-- the verdict is Agrees exactly on such claims
abbrev pub AgreesExactly : Type 0
AgreesExactly =
    (rows : Rows) (front : Front) (claim : List ℕ)
    → IsFront front → AreBytes claim → length claim ≡ claim_length front
    → (slot_verdict rows front claim ≡ Agrees) ↔ IsRightClaim rows.0 front claim

-- the record that is defined for a slot, with certificates
abbrev pub own_record : Settings → List (List ℤ) → List ℤ → List ℕ
own_record settings history soft = reading_spelling Audit (slot_reading settings history soft)

-- in a slot of 510 positions, after slots of soft values, it has the length that is claimed for the slot, and agrees
abbrev pub OwnRecordsAgree : Type 0
OwnRecordsAgree = (settings : Settings) (history : List (List ℤ)) (soft : List ℤ)
    → IsValid settings → All AllSoft history → length soft ≡ 510 → AllSoft soft
    → (length (own_record settings history soft) ≡ claim_length (slot_front settings history soft))
    × (slot_verdict settings.rows (slot_front settings history soft) (own_record settings history soft) ≡ Agrees)
