-- What is sent of speech. This project's own numbers, after EN 300 395-2 clause 5.
use Rattle.std.specs.Prelude.{Bool, false, List, ◌++◌, ℤ, pos}
use Rattle.tetra_interleave.specs.Matrix.{matrix_place}
use Rattle.tetra_interleave.specs.Placed.{placed, taken}
use Rattle.tetra_parity.specs.Parity.{parity_bits}
use Rattle.tetra_parity.specs.declared.kind.Parity.TheVariants.{Four, Eight}
use Rattle.tetra_puncture.specs.Places.{speech_whole, speech_half}
use Rattle.tetra_puncture.specs.Plan.{word}
use Rattle.tetra_speech.specs.Classes.{class_2, bits_at}
use Rattle.tetra_speech.specs.Frames.{alternated, whole_uncoded, whole_coded, half_uncoded, half_coded}

-- the bits of a whole slot: frames A and B and the 8 parity bits of their class 2
unfoldable pub whole_message : List Bool → List Bool → List Bool
whole_message a b = a ++ b ++ parity_bits Eight (alternated (bits_at class_2 a) (bits_at class_2 b))

-- the 432 type-3 bits of frames A and B: 102 uncoded bits, and the 330 sent bits of the coded ones
unfoldable pub whole_type3 : List Bool → List Bool → List Bool
whole_type3 a b =
    let bits = whole_message a b in whole_uncoded bits ++ word speech_whole (whole_coded bits)

-- type 4: written by rows into a matrix of 24 rows and 18 columns, and read by columns
unfoldable pub whole_type4 : List Bool → List Bool → List Bool
whole_type4 a b = placed false 432 (matrix_place 24 18) (whole_type3 a b)

-- the bits of half a slot: a frame and the 4 parity bits of its class 2
unfoldable pub half_message : List Bool → List Bool
half_message frame = frame ++ parity_bits Four (bits_at class_2 frame)

-- the 216 type-3 bits of a frame: 51 uncoded bits, and the 165 sent bits of the coded ones
unfoldable pub half_type3 : List Bool → List Bool
half_type3 frame = let bits = half_message frame in half_uncoded bits ++ word speech_half (half_coded bits)

-- type 4: in a matrix of 24 rows and 9 columns
unfoldable pub half_type4 : List Bool → List Bool
half_type4 frame = placed false 216 (matrix_place 24 9) (half_type3 frame)

-- received values of type-4 bits in the order of type-3 bits
unfoldable pub whole_front : List ℤ → List ℤ
whole_front soft = taken (pos 0) 432 (matrix_place 24 18) soft

unfoldable pub half_front : List ℤ → List ℤ
half_front soft = taken (pos 0) 216 (matrix_place 24 9) soft
