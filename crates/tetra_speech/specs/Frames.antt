-- Two frames side by side: in a whole slot each class holds the first bit of frame A, the first of B, the second of A,
-- the second of B and so on. Bits are numbered from 1. This project's own.
use Rattle.std.specs.Prelude.{ℕ, ◌+◌, ◌-◌, ◌*◌, ◌/◌, ◌%◌, nat_eq, Bool, cond, List, ◌++◌, length, take, drop}
use Rattle.tetra_bits.specs.Numbered.{numbered}
use Rattle.tetra_bits.specs.Order.{bit_at}
use Rattle.tetra_speech.specs.Classes.{class_0, class_1, class_2, bits_at, frame_of}

-- entry k of two lists alternating
unfoldable pub alternate : List Bool → List Bool → ℕ → Bool
alternate a b k = cond (nat_eq ((k - 1) % 2) 0) (bit_at a ((k - 1) / 2)) (bit_at b ((k - 1) / 2))

-- two lists of one length alternating
unfoldable pub alternated : List Bool → List Bool → List Bool
alternated a b = numbered (alternate a b) (2 * length a)

-- every second entry, from the first (0) or from the second (1)
unfoldable pub strand : ℕ → List Bool → List Bool
strand from both = numbered (λ k. bit_at both (2 * (k - 1) + from)) (length both / 2)

-- what is uncoded and what is coded of a reading of a whole slot: frames A and B, and 8 parity bits behind them
unfoldable pub whole_uncoded : List Bool → List Bool
whole_uncoded bits = alternated (bits_at class_0 (take 137 bits)) (bits_at class_0 (take 137 (drop 137 bits)))

-- in coding order: class 1 of A and B alternating, class 2 of A and B alternating, the parity bits
unfoldable pub whole_coded : List Bool → List Bool
whole_coded bits =
    let a = take 137 bits in
    let b = take 137 (drop 137 bits) in
    alternated (bits_at class_1 a) (bits_at class_1 b) ++ alternated (bits_at class_2 a) (bits_at class_2 b)
    ++ drop 274 bits

-- the frame that is strand `from` of uncoded bits and of coded ones
unfoldable pub whole_frame : ℕ → List Bool → List Bool → List Bool
whole_frame from uncoded coded = frame_of (record {
  zero = strand from uncoded;
  one = strand from (take 112 coded);
  two = strand from (take 60 (drop 112 coded));
})

-- the bits of a reading of a whole slot, by its 102 uncoded and its 180 coded bits
unfoldable pub whole_bits : List Bool → List Bool → List Bool
whole_bits uncoded coded = whole_frame 0 uncoded coded ++ whole_frame 1 uncoded coded ++ drop 172 coded

-- the same of half a slot: one frame, and 4 parity bits behind it
unfoldable pub half_uncoded : List Bool → List Bool
half_uncoded bits = bits_at class_0 (take 137 bits)

unfoldable pub half_coded : List Bool → List Bool
half_coded bits = bits_at class_1 (take 137 bits) ++ bits_at class_2 (take 137 bits) ++ drop 137 bits

unfoldable pub half_bits : List Bool → List Bool → List Bool
half_bits uncoded coded =
    frame_of (record { zero = uncoded; one = take 56 coded; two = take 30 (drop 56 coded) }) ++ drop 86 coded

-- the free bits of the trellis in coding order, and the uncoded bits, of the 282 bits of a whole slot or the 141 of half
-- a slot
unfoldable pub trellis_part : List Bool → List Bool
trellis_part bits = cond (nat_eq (length bits) 282) (whole_coded bits) (half_coded bits)

unfoldable pub uncoded_part : List Bool → List Bool
uncoded_part bits = cond (nat_eq (length bits) 282) (whole_uncoded bits) (half_uncoded bits)
