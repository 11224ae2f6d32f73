-- What an auditor stands for.
use Rattle.std.specs.Prelude.{◌≡◌, ◌<◌, ◌≤◌, List, [], ◌∷◌, ◌++◌, length, take}
use Rattle.tetra_engine.specs.declared.auditor.Auditor.{Auditor}
use Rattle.tetra_session.specs.Fronts.{IsFront}
use Rattle.tetra_audit.specs.Fields.{claim_length}
use Rattle.tetra_engine.specs.Auditing.{Claimed, slots_of, front_at, refused_slots}
use Rattle.tetra_engine.specs.Intake.{IntakeStands}
use Rattle.tetra_engine.specs.Refusals.{Counts}
use Rattle.tetra_engine.specs.Slots.{soft_values}

-- it has read and judged these slots, by the access code of its settings
pub record AuditorStands (a : Auditor) (before : List Claimed) : Type 0 where
  pub code : a.code ≡ a.intake.settings.rows
  pub intake : IntakeStands a.intake (slots_of before)
  pub refusals : Counts a.refusals (refused_slots a.intake.settings [] before)

-- and it holds the next one, whose front the receiver has taken
pub record AuditorHolds (a : Auditor) (before : List Claimed) (input : Claimed) : Type 0 where
  pub code : a.code ≡ a.intake.settings.rows
  pub intake : IntakeStands a.intake (slots_of before ++ soft_values input.0 ∷ [])
  pub refusals : Counts a.refusals (refused_slots a.intake.settings [] before)
  pub counted : a.refusals.count < 16777216
  pub slot : a.slot ≡ length before
  pub front : a.front ≡ front_at a.intake.settings before input.0
  pub formed : IsFront a.front
  pub size : a.len ≡ claim_length a.front
  pub within : a.len ≤ 18743
  pub claim : take a.len a.claim ≡ input.1
