-- When a certificate is checked for C.
use Rattle.std.specs.Prelude.{ℕ, ◌+◌, ℤ, List, length, None, Some, nat_eq, not, ◌||◌, ◌==◌, if◌then◌else◌}
use Rattle.std.specs.declared.option.Option.{Option}
use Rattle.tetra_puncture.specs.Places.{two_thirds, p292, p148, speech_whole, speech_half}
use Rattle.tetra_puncture.specs.Plan.{CodePlan}
use Rattle.tetra_c.specs.Bytes.{are_bits}
use Rattle.tetra_c.specs.declared.fault.Fault.{Fault}
use Rattle.tetra_c.specs.declared.fault.Fault.TheVariants.{Length, Bit, Field}

-- the plan of a field by the number of its name; of speech that of the part with a code
abbrev pub plan_of : ℕ → Option CodePlan
plan_of channel =
    if channel == 1 then Some (two_thirds 80 120)
    else (if channel == 2 then Some (two_thirds 144 216)
    else (if channel == 3 then Some (two_thirds 112 168)
    else (if channel == 4 then Some (two_thirds 288 432)
    else (if channel == 6 then Some p292
    else (if channel == 7 then Some p148
    else (if channel == 8 then Some speech_whole
    else (if channel == 9 then Some speech_half
    else None)))))))

-- why nothing is checked by a plan: the values, the bits of the message or the rows are not as many as it has, or a byte
-- of the message is no bit
abbrev pub plan_fault : CodePlan → List ℤ → List ℕ → ℕ → Option Fault
plan_fault plan values message rows =
    if not (nat_eq (length values) plan.sent) || not (nat_eq (length message + 4) plan.steps)
    || not (nat_eq rows (plan.steps + 1)) then Some Length
    else (if not (are_bits message) then Some Bit else None)

abbrev pub fault_by : Option CodePlan → List ℤ → List ℕ → ℕ → Option Fault
fault_by None values message rows = Some Field
fault_by (Some plan) values message rows = plan_fault plan values message rows

-- why nothing is checked: there is no such field first of all
abbrev pub check_fault : ℕ → List ℤ → List ℕ → ℕ → Option Fault
check_fault channel values message rows = fault_by (plan_of channel) values message rows
