-- What is sent of speech from the parts that are found on the way.
use Rattle.std.proofs.Common.{◌≡◌, ℕ, Bool, List, ◌++◌, length, take, drop, arith, refl, ap, ◌∙◌}
use Rattle.std.proofs.lemmas.List.{take_all}
use Rattle.tetra_parity.specs.Parity.{width, parity_bits, with_parity}
use Rattle.tetra_parity.specs.declared.kind.Parity.{Parity}
use Rattle.tetra_parity.specs.declared.kind.Parity.TheVariants.{Four, Eight}
use Rattle.tetra_parity.specs.lemmas.Messages.{length-parity_bits}
use Rattle.tetra_puncture.specs.Places.{speech_whole, speech_half}
use Rattle.tetra_puncture.specs.Plan.{word}
use Rattle.tetra_speech.specs.Classes.{class_2, bits_at}
use Rattle.tetra_speech.specs.Frames.{alternated, whole_uncoded, whole_coded, half_uncoded, half_coded, trellis_part, uncoded_part}
use Rattle.tetra_speech.specs.Words.{whole_message, whole_type3, half_message, half_type3}
use Rattle.tetra_speech.proofs.Pieces.{behind}

-- the parity behind a block of n bits
parity_behind : (parity : Parity) (n count : ℕ) (block : List Bool) → length block ≡ n → width parity ≡ count
    → take count (drop n (with_parity parity block)) ≡ parity_bits parity block
unfolding with_parity
parity_behind parity n count block l w =
    rw (behind n block (parity_bits parity block) l)
    (take_all count (parity_bits parity block) (omega (arith, length-parity_bits parity block)))

pub is_whole_message : (a b two_a two_b block protected part : List Bool) → two_a ≡ bits_at class_2 a
    → two_b ≡ bits_at class_2 b → block ≡ alternated two_a two_b → length block ≡ 60
    → protected ≡ with_parity Eight block → part ≡ take 8 (drop 60 protected) → a ++ b ++ part ≡ whole_message a b
unfolding whole_message
is_whole_message a b two_a two_b block protected part ea eb e l ep et =
    let parity : part ≡ parity_bits Eight block =
    et ∙ ap (λ x. take 8 (drop 60 x)) ep ∙ parity_behind Eight 60 8 block l refl
    in
    rw (parity, e, ea, eb) refl

pub is_half_message : (frame two protected part : List Bool) → two ≡ bits_at class_2 frame → length two ≡ 30
    → protected ≡ with_parity Four two → part ≡ take 4 (drop 30 protected) → frame ++ part ≡ half_message frame
unfolding half_message
is_half_message frame two protected part e l ep et =
    let parity : part ≡ parity_bits Four two =
    et ∙ ap (λ x. take 4 (drop 30 x)) ep ∙ parity_behind Four 30 4 two l refl
    in
    rw (parity, e) refl

whole_parts : (bits : List Bool) → length bits ≡ 282
    → (trellis_part bits ≡ whole_coded bits) × (uncoded_part bits ≡ whole_uncoded bits)
unfolding trellis_part uncoded_part
whole_parts bits l = (rw l refl, rw l refl)

half_parts : (bits : List Bool) → length bits ≡ 141
    → (trellis_part bits ≡ half_coded bits) × (uncoded_part bits ≡ half_uncoded bits)
unfolding trellis_part uncoded_part
half_parts bits l = (rw l refl, rw l refl)

pub is_whole_type3 : (a b bits coded uncoded sent : List Bool) → bits ≡ whole_message a b → length bits ≡ 282
    → coded ≡ trellis_part bits → uncoded ≡ uncoded_part bits → sent ≡ word speech_whole coded
    → uncoded ++ sent ≡ whole_type3 a b
unfolding whole_type3
is_whole_type3 a b bits coded uncoded sent e l ec eu es =
    let parts = whole_parts bits l in
    rw (es, ec, eu, parts.0, parts.1, e) refl

pub is_half_type3 : (frame bits coded uncoded sent : List Bool) → bits ≡ half_message frame → length bits ≡ 141
    → coded ≡ trellis_part bits → uncoded ≡ uncoded_part bits → sent ≡ word speech_half coded
    → uncoded ++ sent ≡ half_type3 frame
unfolding half_type3
is_half_type3 frame bits coded uncoded sent e l ec eu es =
    let parts = half_parts bits l in
    rw (es, ec, eu, parts.0, parts.1, e) refl
