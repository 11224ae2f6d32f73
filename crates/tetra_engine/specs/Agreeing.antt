-- What an audit finds in what decoding wrote with certificates: it reads all of it, and every slot agrees.
use Rattle.std.specs.Prelude.{◌≡◌, ℕ, ◌≤◌, List}
use Rattle.std.specs.List.{flat_map, range_with_len}
use Rattle.tetra_settings.specs.declared.types.Form.{Form}
use Rattle.tetra_settings.specs.declared.types.Form.TheVariants.{Audit}
use Rattle.tetra_settings.specs.declared.types.Settings.{Settings}
use Rattle.tetra_settings.specs.Validity.{IsValid}
use Rattle.tetra_audit.specs.declared.verdict.SlotVerdict.TheVariants.{Agrees}
use Rattle.tetra_engine.specs.declared.status.Status.TheVariants.{Done}
use Rattle.tetra_engine.specs.declared.status.End.{End}
use Rattle.tetra_engine.specs.Auditing.{auditing}
use Rattle.tetra_engine.specs.Decoding.{decoding}
use Rattle.tetra_engine.specs.Outcomes.{Outcome}
use Rattle.tetra_engine.specs.Verdicts.{verdict_line}

-- the same settings for a run over what another wrote: with this form and this greatest number of slots
abbrev pub to_read_back : Settings → Form → ℕ → Settings
to_read_back settings form max = record settings { form = form; max = max }

-- the lines of so many slots, all of which agree
abbrev pub agreeing_lines : ℕ → List ℕ
agreeing_lines slots = flat_map (λ slot. verdict_line slot Agrees) (range_with_len 0 slots)

-- Behind a run of decoding with certificates in which no read and no write failed, an audit of what it wrote ends Done,
-- with as many slots.
abbrev pub DecodedAgrees : Type 0
DecodedAgrees = (settings : Settings) (form : Form) (max : ℕ) (bytes written : List ℕ) (end : End)
    → IsValid settings → settings.form ≡ Audit → end.slots ≤ max
    → Outcome (decoding settings) settings.max bytes (λ output. output ≡ written) end
    → Outcome (auditing (to_read_back settings form max)) max written (λ lines. lines ≡ agreeing_lines end.slots)
    (record { status = Done; slots = end.slots })
