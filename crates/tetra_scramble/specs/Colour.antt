-- The extended colour code, EN 300 392-2 clause 8.2.5: mobile country code, mobile network code and colour code.
use Rattle.std.specs.Prelude.{◌≤◌, Bool, List, ◌++◌}
use Rattle.tetra_bits.specs.Digits.{digits}
use Rattle.tetra_scramble.specs.declared.colour.Colour.{Colour}

-- each number in its range
pub record IsColour (colour : Colour) : Type 0 where
  pub country : colour.mcc ≤ 1023
  pub network : colour.mnc ≤ 16383
  pub code : colour.cc ≤ 63

-- e(1) to e(30): 10 bits of MCC, 14 of MNC, 6 of the colour code
unfoldable pub colour_bits : Colour → List Bool
colour_bits colour = digits 10 colour.mcc ++ digits 14 colour.mnc ++ digits 6 colour.cc
