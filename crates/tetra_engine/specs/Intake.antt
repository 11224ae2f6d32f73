-- What an intake of slots stands for, and what it reads.
use Rattle.std.specs.Prelude.{◌≡◌, ℕ, ◌<◌, ℤ, List, length, Ok, Err, Result}
use Rattle.std.specs.Io.KnownBytes.{Consumes, IsAtEnd}
use Rattle.std.specs.declared.option.Option.{Option}
use Rattle.tetra_bits.specs.Soft.{AllSoft}
use Rattle.tetra_io.specs.Filling.{TakesFewer}
use Rattle.tetra_settings.specs.Validity.{IsValid}
use Rattle.tetra_records.specs.declared.faults.RecordFault.TheVariants.{Truncated}
use Rattle.tetra_session.specs.Heard.{ReceiverStands}
use Rattle.tetra_engine.specs.declared.intake.Intake.{Intake}
use Rattle.tetra_engine.specs.declared.work.Stop.{Stop}
use Rattle.tetra_engine.specs.declared.work.Stop.TheVariants.{End, Bad, More, Fault}
use Rattle.tetra_engine.specs.Outcomes.{Over}
use Rattle.tetra_engine.specs.Slots.{soft_values}

-- its receiver was given these slots
pub record IntakeStands (intake : Intake) (heard : List (List ℤ)) : Type 0 where
  pub valid : IsValid intake.settings
  pub receiver : ReceiverStands intake.settings heard intake.receiver

-- it holds a slot
pub record HoldsSlot (intake : Intake) : Type 0 where
  pub size : length intake.bytes ≡ 510
  pub values : intake.soft ≡ soft_values intake.bytes
  pub soft : AllSoft intake.soft

-- why no slot was read
abbrev pub IntakeStops : Option (List ℕ) → Option (List ℕ) → Stop → Type 0
IntakeStops old new End = IsAtEnd old × IsAtEnd new
IntakeStops old new (Bad why) =
    (why ≡ Truncated) × Over old (λ bytes. (0 < length bytes) × (length bytes < 510))
IntakeStops old new More = ⊥
IntakeStops old new Fault = TakesFewer old new 510

-- what reading a slot gives
abbrev pub IntakeGives : Intake → Option (List ℕ) → Option (List ℕ) → Result (Unit {0}) Stop → Type 0
IntakeGives intake old new (Ok u) = HoldsSlot intake × Consumes old new intake.bytes
IntakeGives intake old new (Err stop) = IntakeStops old new stop
