-- The lines of an audit.
use Rattle.std.specs.Prelude.{ℕ, List, ◌++◌, codes, decimal}
use Rattle.tetra_cert.specs.declared.Rule.{Rule}
use Rattle.tetra_cert.specs.declared.Rule.TheVariants.{End, Edge0, Edge1, Path, Tie}
use Rattle.tetra_audit.specs.declared.verdict.FieldWhy.{FieldWhy}
use Rattle.tetra_audit.specs.declared.verdict.FieldWhy.TheVariants.{Pad, Bits, Cert, Metric, Mark}
use Rattle.tetra_audit.specs.declared.verdict.SlotVerdict.{SlotVerdict}
use Rattle.tetra_audit.specs.declared.verdict.SlotVerdict.TheVariants.{Agrees, Kind, Field}

abbrev pub rule_text : Rule → List ℕ
rule_text End = codes "end"
rule_text Edge0 = codes "edge 0"
rule_text Edge1 = codes "edge 1"
rule_text Path = codes "path"
rule_text Tie = codes "tie"

abbrev pub field_text : FieldWhy → List ℕ
field_text Pad = codes "pad"
field_text Bits = codes "bits"
field_text (Cert step state rule) =
    codes "step " ++ decimal step ++ codes " state " ++ decimal state ++ codes " " ++ rule_text rule
field_text Metric = codes "metric"
field_text Mark = codes "mark"

abbrev pub verdict_text : SlotVerdict → List ℕ
verdict_text Agrees = codes "ok"
verdict_text Kind = codes "refused kind"
verdict_text (Field index why) = codes "refused field " ++ decimal index ++ codes " " ++ field_text why

-- the line of a slot, with its newline
abbrev pub verdict_line : ℕ → SlotVerdict → List ℕ
verdict_line slot verdict = decimal slot ++ codes " " ++ verdict_text verdict ++ codes "\n"
