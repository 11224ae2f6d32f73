-- How a run ends, by its words and the bytes that are told.
use Rattle.std.specs.Prelude.{◌≡◌, ◌↔◌, ℕ, ◌<◌, ◌≤◌, List, Ok, Err, Result, IfOk, MatchResult, ⊤}
use Rattle.std.specs.declared.option.Option.{Option}
use Rattle.tetra_settings.specs.declared.types.Command.{Command}
use Rattle.tetra_settings.specs.declared.types.Command.TheVariants.{Encode, Decode, Audit, Gen, Trial}
use Rattle.tetra_settings.specs.declared.types.Settings.{Settings}
use Rattle.tetra_settings.specs.declared.types.WordFault.{WordFault}
use Rattle.tetra_records.specs.declared.faults.RecordFault.{RecordFault}
use Rattle.tetra_engine.specs.declared.status.Status.{Status}
use Rattle.tetra_engine.specs.declared.status.Status.TheVariants.{Words, TooLong, Refused, Input}
use Rattle.tetra_engine.specs.declared.status.End.{End}
use Rattle.tetra_engine.specs.Auditing.{auditing}
use Rattle.tetra_engine.specs.Decoding.{decoding}
use Rattle.tetra_engine.specs.Encoding.{encoding}
use Rattle.tetra_engine.specs.Generating.{generating}
use Rattle.tetra_engine.specs.Outcomes.{EndsBy, Outcome, Grows, ReadsOut}
use Rattle.tetra_engine.specs.Series.{SeriesEnds, SeriesOutcome}
use Rattle.tetra_engine.specs.Trying.{trying}

-- A run whose words are faulty ends so, with nothing read, written or flushed. Source and Sink say that both are as
-- they were.
abbrev pub Starts : Result (Command × Settings) WordFault → Type 0 → Type 0 → End → Type 0
Starts (Ok found) Source Sink end = Unit {0}
Starts (Err fault) Source Sink end =
    Source × Sink × (end ≡ record { status = Words fault.index fault.why; slots = 0 })

-- what holds of a run whose words pass
abbrev pub IfReady : Result (Command × Settings) WordFault → (Command → Settings → Type 0) → Type 0
IfReady (Ok (command, settings)) P = P command settings
IfReady (Err fault) P = Unit {0}

-- the end of a command's run
abbrev pub CommandEnds : Command → Settings
    → Option (List ℕ) → Option (List ℕ) → Option (List ℕ) → Option (List ℕ) → End → Type 0
CommandEnds Encode settings rest0 rest1 taken0 taken1 end =
    EndsBy end.status (encoding settings) settings.max rest0 rest1 (Grows taken0 taken1) end
CommandEnds Decode settings rest0 rest1 taken0 taken1 end =
    EndsBy end.status (decoding settings) settings.max rest0 rest1 (Grows taken0 taken1) end
CommandEnds Audit settings rest0 rest1 taken0 taken1 end =
    EndsBy end.status (auditing settings) settings.max rest0 rest1 (Grows taken0 taken1) end
CommandEnds Gen settings rest0 rest1 taken0 taken1 end =
    SeriesEnds end.status (generating settings) (Grows taken0 taken1) end
CommandEnds Trial settings rest0 rest1 taken0 taken1 end =
    SeriesEnds end.status (trying settings) (Grows taken0 taken1) end

-- What a command's run leaves of its source, of which the count of ends was the one and is the other. A command that
-- reads nothing leaves it as it was, which Same says.
abbrev pub CommandLeaves : Command → Status → Type 0 → Option (List ℕ) → ℕ → ℕ → Type 0
CommandLeaves Encode status Same rest before now = ReadsOut status rest before now
CommandLeaves Decode status Same rest before now = ReadsOut status rest before now
CommandLeaves Audit status Same rest before now = ReadsOut status rest before now
CommandLeaves Gen status Same rest before now = Same
CommandLeaves Trial status Same rest before now = Same

-- the end of a run that meets no fault, by the command
abbrev pub CommandRuns : Command → Settings → List ℕ → End → Type 0
CommandRuns Encode settings bytes end = Outcome (encoding settings) settings.max bytes (λ output. ⊤) end
CommandRuns Decode settings bytes end = Outcome (decoding settings) settings.max bytes (λ output. ⊤) end
CommandRuns Audit settings bytes end = Outcome (auditing settings) settings.max bytes (λ output. ⊤) end
CommandRuns Gen settings bytes end = SeriesOutcome (generating settings) (λ output. ⊤) end
CommandRuns Trial settings bytes end = SeriesOutcome (trying settings) (λ output. ⊤) end

-- the end of a run over these bytes that meets no fault
abbrev pub RunsOver : Result (Command × Settings) WordFault → List ℕ → End → Type 0
RunsOver (Ok (command, settings)) bytes end = CommandRuns command settings bytes end
RunsOver (Err fault) bytes end = end ≡ record { status = Words fault.index fault.why; slots = 0 }

-- the words are those of an audit
abbrev pub IsAuditCommand : Command → Type 0
IsAuditCommand Encode = ⊥
IsAuditCommand Decode = ⊥
IsAuditCommand Audit = Unit {0}
IsAuditCommand Gen = ⊥
IsAuditCommand Trial = ⊥

abbrev pub IsAudit : Result (Command × Settings) WordFault → Type 0
IsAudit (Ok (command, settings)) = IsAuditCommand command
IsAudit (Err fault) = ⊥

-- the most slots that a command's words allow
abbrev pub most_slots : Command → Settings → ℕ
most_slots Encode settings = settings.max
most_slots Decode settings = settings.max
most_slots Audit settings = settings.max
most_slots Gen settings = settings.slots
most_slots Trial settings = settings.slots

-- What an end says of its words and of the number of its slots, whether or not the source tells its bytes.
pub record Says (found : Result (Command × Settings) WordFault) (end : End) : Type 0 where
  -- it is Words exactly where the words have that fault
  pub words : (fault : WordFault) → (end.status ≡ Words fault.index fault.why) ↔ (found ≡ Err fault)
  -- no more slots went out than the words allow, and none where they are faulty
  pub few : MatchResult found (λ f. end.slots ≤ most_slots f.0 f.1) (λ fault. end.slots ≡ 0)
  -- it is TooLong only behind as many slots as they allow
  pub too_long : end.status ≡ TooLong → IfOk found (λ f. end.slots ≡ most_slots f.0 f.1)
  -- only an audit is Refused, by some of the slots that went out
  pub refused : (slot count : ℕ) → end.status ≡ Refused slot count
      → IsAudit found × (0 < count) × (count ≤ end.slots) × (slot < end.slots)
  -- a faulty input is the one behind the slots that went out
  pub input : (slot : ℕ) (why : RecordFault) → end.status ≡ Input slot why → slot ≡ end.slots
