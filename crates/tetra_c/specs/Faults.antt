-- The numbers that C gets: 0 where a call did its work, else that of the fault.
use Rattle.std.specs.Prelude.{ℤ, pos, negsuc, None, Some}
use Rattle.std.specs.declared.option.Option.{Option}
use Rattle.tetra_c.specs.declared.fault.Fault.{Fault}
use Rattle.tetra_c.specs.declared.fault.Fault.TheVariants.{Length, Bit, Colour, Mode, Place, Turn, Kept, Misfit, Field}

-- from -1 to -9
abbrev pub number_of : Fault → ℤ
number_of Length = negsuc 0
number_of Bit = negsuc 1
number_of Colour = negsuc 2
number_of Mode = negsuc 3
number_of Place = negsuc 4
number_of Turn = negsuc 5
number_of Kept = negsuc 6
number_of Misfit = negsuc 7
number_of Field = negsuc 8

abbrev pub answer_of : Option Fault → ℤ
answer_of None = pos 0
answer_of (Some fault) = number_of fault

-- the first of two tests that finds a fault
abbrev pub or_else : Option Fault → Option Fault → Option Fault
or_else (Some fault) next = Some fault
or_else None next = next
