-- Reading records for C.
use Rattle.std.specs.Prelude.{ℕ, List, length, None, Some, nat_eq, not, ◌==◌, if◌then◌else◌}
use Rattle.std.specs.declared.option.Option.{Option}
use Rattle.tetra_audit.specs.Fields.{claim_length}
use Rattle.tetra_audit.specs.declared.verdict.FieldWhy.{FieldWhy}
use Rattle.tetra_audit.specs.declared.verdict.FieldWhy.TheVariants.{Pad, Bits, Cert, Metric, Mark}
use Rattle.tetra_audit.specs.declared.verdict.SlotVerdict.{SlotVerdict}
use Rattle.tetra_audit.specs.declared.verdict.SlotVerdict.TheVariants.{Agrees, Kind, Field}
use Rattle.tetra_cert.specs.declared.verdict.Verdict.TheVariants.{Refused, Accepted}
use Rattle.tetra_session.specs.declared.front.Front.{Front}
use Rattle.tetra_settings.specs.declared.types.Form.{Form}
use Rattle.tetra_settings.specs.declared.types.Form.TheVariants.{Plain, Audit}
use Rattle.tetra_c.specs.Verdicts.{verdict_for}
use Rattle.tetra_c.specs.declared.fault.Fault.{Fault}
use Rattle.tetra_c.specs.declared.fault.Fault.TheVariants.{Length}
use Rattle.tetra_c.specs.declared.records.TetraAudit.{TetraAudit}

-- with certificates where the number is not 0
abbrev pub form_of : ℕ → Form
form_of certificates = if certificates == 0 then Plain else Audit

-- the verdict of a test that is no certificate's
abbrev pub of_test : ℕ → ℕ → TetraAudit
of_test test field = record { test = test; field = field; certificate = verdict_for Accepted }

abbrev pub audit_for_field : ℕ → FieldWhy → TetraAudit
audit_for_field index Pad = of_test 2 index
audit_for_field index Bits = of_test 3 index
audit_for_field index (Cert step state rule) =
    record { test = 4; field = index; certificate = verdict_for (Refused step state rule) }
audit_for_field index Metric = of_test 5 index
audit_for_field index Mark = of_test 6 index

-- a verdict for C
abbrev pub audit_for : SlotVerdict → TetraAudit
audit_for Agrees = of_test 0 0
audit_for Kind = of_test 1 0
audit_for (Field index why) = audit_for_field index why

-- why a claim about a front is not audited: it is longer or shorter than the record
abbrev pub claim_fault : Front → List ℕ → Option Fault
claim_fault front claim = if not (nat_eq (length claim) (claim_length front)) then Some Length else None
