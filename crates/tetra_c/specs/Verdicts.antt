-- The verdict of a check as C has it.
use Rattle.std.specs.Prelude.{ℕ}
use Rattle.tetra_puncture.specs.declared.rule.Rule.{Rule}
use Rattle.tetra_puncture.specs.declared.rule.Rule.TheVariants.{End, Edge0, Edge1, Path, Tie}
use Rattle.tetra_cert.specs.declared.verdict.Verdict.{Verdict}
use Rattle.tetra_cert.specs.declared.verdict.Verdict.TheVariants.{Accepted, Refused}
use Rattle.tetra_c.specs.declared.verdict.TetraVerdict.{TetraVerdict}

-- the numbers of the rules; 0 is none
abbrev pub rule_number : Rule → ℕ
rule_number End = 1
rule_number Edge0 = 2
rule_number Edge1 = 3
rule_number Path = 4
rule_number Tie = 5

-- a verdict for C
abbrev pub verdict_for : Verdict → TetraVerdict
verdict_for Accepted = record { step = 0; state = 0; rule = 0 }
verdict_for (Refused step state rule) = record { step = step; state = state; rule = rule_number rule }
