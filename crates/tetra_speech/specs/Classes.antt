-- The classes of the bits of a frame of 137, after EN 300 395-2 clause 5; the numbers are this project's own. Bits of a
-- frame are numbered from 1.
use Rattle.std.specs.Prelude.{ℕ, ◌-◌, ◌++◌, Bool, false, List, [], ◌∷◌, map, slice_index}
use Rattle.tetra_bits.specs.Order.{bit_at}
use Rattle.tetra_interleave.specs.Placed.{placed}
use Rattle.tetra_speech.specs.declared.tables.Classes.{Classes}

-- class 0: 51 bits, which are sent as they are
abbrev pub class_0 : List ℕ
class_0 =
    35 ∷ 36 ∷ 37 ∷ 38 ∷ 39 ∷ 40 ∷ 41 ∷ 42 ∷ 43 ∷ 47 ∷ 48 ∷ 56 ∷ 61 ∷ 62 ∷ 63 ∷ 64 ∷ 65 ∷ 66 ∷ 67 ∷ 68
    ∷ 69 ∷ 70 ∷ 74 ∷ 75 ∷ 83 ∷ 88 ∷ 89 ∷ 90 ∷ 91 ∷ 92 ∷ 93 ∷ 94 ∷ 95 ∷ 96 ∷ 97 ∷ 101 ∷ 102 ∷ 110 ∷ 115
    ∷ 116 ∷ 117 ∷ 118 ∷ 119 ∷ 120 ∷ 121 ∷ 122 ∷ 123 ∷ 124 ∷ 128 ∷ 129 ∷ 137 ∷ []

-- class 1: 56 bits
abbrev pub class_1 : List ℕ
class_1 =
    58 ∷ 85 ∷ 112 ∷ 54 ∷ 81 ∷ 108 ∷ 135 ∷ 50 ∷ 77 ∷ 104 ∷ 131 ∷ 45 ∷ 72 ∷ 99 ∷ 126 ∷ 55 ∷ 82 ∷ 109 ∷ 136 ∷ 5
    ∷ 13 ∷ 34 ∷ 8 ∷ 16 ∷ 17 ∷ 22 ∷ 23 ∷ 24 ∷ 25 ∷ 26 ∷ 6 ∷ 14 ∷ 7 ∷ 15 ∷ 60 ∷ 87 ∷ 114 ∷ 46 ∷ 73 ∷ 100
    ∷ 127 ∷ 44 ∷ 71 ∷ 98 ∷ 125 ∷ 33 ∷ 49 ∷ 76 ∷ 103 ∷ 130 ∷ 59 ∷ 86 ∷ 113 ∷ 57 ∷ 84 ∷ 111 ∷ []

-- class 2: 30 bits, which have parity
abbrev pub class_2 : List ℕ
class_2 =
    18 ∷ 19 ∷ 20 ∷ 21 ∷ 31 ∷ 32 ∷ 53 ∷ 80 ∷ 107 ∷ 134 ∷ 1 ∷ 2 ∷ 3 ∷ 4 ∷ 9 ∷ 10 ∷ 11 ∷ 12 ∷ 27 ∷ 28
    ∷ 29 ∷ 30 ∷ 52 ∷ 79 ∷ 106 ∷ 133 ∷ 51 ∷ 78 ∷ 105 ∷ 132 ∷ []

-- the bits of a frame at these places
unfoldable pub bits_at : List ℕ → List Bool → List Bool
bits_at places frame = map (λ place. bit_at frame (place - 1)) places

-- a frame by its classes
abbrev pub classes_of : List Bool → Classes
classes_of frame = record { zero = bits_at class_0 frame; one = bits_at class_1 frame; two = bits_at class_2 frame }

-- the place in the frame of bit i of the three classes behind one another
unfoldable pub class_place : ℕ → ℕ
class_place i = slice_index (class_0 ++ class_1 ++ class_2) (i - 1)

-- the frame that has these classes
unfoldable pub frame_of : Classes → List Bool
frame_of c = placed false 137 class_place (c.zero ++ c.one ++ c.two)
