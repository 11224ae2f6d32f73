-- The places of the plans. Sent bits, steps and places are counted from 1.
use Rattle.std.specs.Prelude.{ℕ, ◌+◌, ◌-◌, ◌*◌, ◌/◌, ◌%◌, ◌≡◌, ◌≤◌, cond, nat_le, List, [], ◌∷◌, slice_index}
use Rattle.tetra_mother.specs.Generators.{quarter, third}
use Rattle.tetra_puncture.specs.Plan.{CodePlan}

-- place i of a pattern of t places, which it takes of each so many mother bits as its period has:
-- period ((i-1) div t) + P(1 + (i-1) mod t)
abbrev pub patterned : ℕ → List ℕ → ℕ → ℕ → ℕ
patterned period pattern t i = period * ((i - 1) / t) + slice_index pattern ((i - 1) % t)

-- rate 2/3 (EN 300 392-2 clause 8.2.3): the places 1, 2 and 5 of each eight
abbrev pub two_thirds_place : ℕ → ℕ
two_thirds_place i = patterned 8 (1 ∷ 2 ∷ 5 ∷ []) 3 i

abbrev pub two_thirds : ℕ → ℕ → CodePlan
two_thirds steps sent = record { taps = quarter; outs = 4; steps = steps; sent = sent; place = two_thirds_place }

-- the numbers of rate 2/3 that fit together: an even number of steps from 6 to 288, and three sent bits
-- for each two steps
abbrev pub IsTwoThirds : ℕ → ℕ → Type 0
IsTwoThirds steps sent = (steps % 2 ≡ 0) × (6 ≤ steps) × (steps ≤ 288) × (2 * sent ≡ 3 * steps)

-- rate 292/432 (EN 300 392-2 clause 8.2.3): the places of rate 2/3, but each 66th is passed over
abbrev pub p292_place : ℕ → ℕ
p292_place j = two_thirds_place (j + (j - 1) / 65)

abbrev pub p292 : CodePlan
p292 = record { taps = quarter; outs = 4; steps = 292; sent = 432; place = p292_place }

-- rate 148/432 (EN 300 392-2 clause 8.2.3): the places 1, 2, 3, 5, 6 and 7 of each eight, but each 36th is passed over
abbrev pub p148_place : ℕ → ℕ
p148_place j = patterned 8 (1 ∷ 2 ∷ 3 ∷ 5 ∷ 6 ∷ 7 ∷ []) 6 (j + (j - 1) / 35)

abbrev pub p148 : CodePlan
p148 = record { taps = quarter; outs = 4; steps = 148; sent = 432; place = p148_place }

-- The plans of speech (this project's own numbers, after EN 300 395-2 clause 5). The steps of class 1 send three bits
-- of each six, those of class 2 and of its parity send more.
abbrev pub class1_place : ℕ → ℕ
class1_place i = patterned 6 (1 ∷ 2 ∷ 4 ∷ []) 3 i

-- in a whole slot nine of each twelve
abbrev pub whole_class2_place : ℕ → ℕ
whole_class2_place i = patterned 12 (1 ∷ 2 ∷ 3 ∷ 4 ∷ 5 ∷ 7 ∷ 8 ∷ 10 ∷ 11 ∷ []) 9 i

-- in half a slot seventeen of each twenty-four
abbrev pub half_class2_place : ℕ → ℕ
half_class2_place i =
    patterned 24 (1 ∷ 2 ∷ 3 ∷ 4 ∷ 5 ∷ 7 ∷ 8 ∷ 10 ∷ 11 ∷ 13 ∷ 14 ∷ 16 ∷ 17 ∷ 19 ∷ 20 ∷ 22 ∷ 23 ∷ []) 17 i

-- the 112 steps of class 1 in a whole slot have 336 mother bits, of which 168 are sent
abbrev pub speech_whole_place : ℕ → ℕ
speech_whole_place j = cond (nat_le j 168) (class1_place j) (336 + whole_class2_place (j - 168))

abbrev pub speech_whole : CodePlan
speech_whole = record { taps = third; outs = 3; steps = 184; sent = 330; place = speech_whole_place }

-- the 56 steps of class 1 in half a slot have 168 mother bits, of which 84 are sent
abbrev pub speech_half_place : ℕ → ℕ
speech_half_place j = cond (nat_le j 84) (class1_place j) (168 + half_class2_place (j - 84))

abbrev pub speech_half : CodePlan
speech_half = record { taps = third; outs = 3; steps = 94; sent = 165; place = speech_half_place }
