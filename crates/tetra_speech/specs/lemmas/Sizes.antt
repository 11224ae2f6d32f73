-- How many bits there are in what is read.
use Rattle.std.proofs.Common.{◌≡◌, ◌++◌, Bool, List, length, take, drop, length-append, length-drop, arith}
use Rattle.tetra_speech.specs.Classes.{class_1, class_2, bits_at, frame_of}
use Rattle.tetra_speech.specs.Frames.{alternated, whole_frame, whole_bits, whole_coded, half_bits, half_coded}
use Rattle.tetra_speech.specs.lemmas.Sorted.{length-frame_of, length-bits_at}
use Rattle.tetra_speech.specs.lemmas.Strands.{length-alternated}
use Rattle.tetra_speech.specs.declared.tables.Classes.{Classes}

pub whole_size : (uncoded coded : List Bool) → length coded ≡ 180 → length (whole_bits uncoded coded) ≡ 282
unfolding whole_bits whole_frame
whole_size uncoded coded size =
    let a : length (whole_frame 0 uncoded coded) ≡ 137 = length-frame_of _ in
    let b : length (whole_frame 1 uncoded coded) ≡ 137 = length-frame_of _ in
    omega (
      arith,
      length-append (whole_frame 0 uncoded coded ++ whole_frame 1 uncoded coded) (drop 172 coded),
      length-append (whole_frame 0 uncoded coded) (whole_frame 1 uncoded coded),
      length-drop 172 coded,
      a,
      b,
      size,
    )

pub half_size : (uncoded coded : List Bool) → length coded ≡ 90 → length (half_bits uncoded coded) ≡ 141
unfolding half_bits
half_size uncoded coded size =
    let c : Classes = record { zero = uncoded; one = take 56 coded; two = take 30 (drop 56 coded) } in
    omega (arith, length-append (frame_of c) (drop 86 coded), length-drop 86 coded, length-frame_of c, size)

pub whole_coded_size : (bits : List Bool) → length bits ≡ 282 → length (whole_coded bits) ≡ 180
unfolding whole_coded
whole_coded_size bits size =
    let a = take 137 bits in
    let b = take 137 (drop 137 bits) in
    let one = alternated (bits_at class_1 a) (bits_at class_1 b) in
    let two = alternated (bits_at class_2 a) (bits_at class_2 b) in
    let l1 : length (bits_at class_1 a) ≡ 56 = length-bits_at class_1 a in
    let l2 : length (bits_at class_2 a) ≡ 30 = length-bits_at class_2 a in
    let h1 : length one ≡ 112 = omega (arith, length-alternated (bits_at class_1 a) (bits_at class_1 b), l1) in
    let h2 : length two ≡ 60 = omega (arith, length-alternated (bits_at class_2 a) (bits_at class_2 b), l2) in
    omega (arith, length-append (one ++ two) (drop 274 bits), length-append one two, length-drop 274 bits, h1, h2, size)

pub half_coded_size : (bits : List Bool) → length bits ≡ 141 → length (half_coded bits) ≡ 90
unfolding half_coded
half_coded_size bits size =
    let one = bits_at class_1 (take 137 bits) in
    let two = bits_at class_2 (take 137 bits) in
    let h1 : length one ≡ 56 = length-bits_at class_1 (take 137 bits) in
    let h2 : length two ≡ 30 = length-bits_at class_2 (take 137 bits) in
    omega (arith, length-append (one ++ two) (drop 137 bits), length-append one two, length-drop 137 bits, h1, h2, size)
