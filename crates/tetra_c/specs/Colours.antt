-- The colour of a cell as C has it.
use Rattle.std.specs.Prelude.{Bool, None, Some, nat_lt, ◌||◌, if◌then◌else◌}
use Rattle.std.specs.declared.option.Option.{Option}
use Rattle.tetra_scramble.specs.declared.colour.Colour.{Colour}
use Rattle.tetra_c.specs.declared.colour.TetraColour.{TetraColour}

abbrev pub colour_of : TetraColour → Colour
colour_of colour = record { mcc = colour.mcc; mnc = colour.mnc; cc = colour.cc }

-- a number is out of its range
abbrev pub is_out_of_range : TetraColour → Bool
is_out_of_range colour = nat_lt 1023 colour.mcc || nat_lt 16383 colour.mnc || nat_lt 63 colour.cc

-- the colour, where its numbers are in range
abbrev pub checked_colour : TetraColour → Option Colour
checked_colour colour = if is_out_of_range colour then None else Some (colour_of colour)
