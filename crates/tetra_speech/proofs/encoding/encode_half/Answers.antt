use Rattle.std.proofs.Common.{◌≡◌, false, length, take, drop, arith, ap, ◌∙◌}
use Rattle.tetra_interleave.specs.Matrix.{matrix_place}
use Rattle.tetra_interleave.specs.Placed.{placed}
use Rattle.tetra_speech.specs.Frames.{trellis_part, uncoded_part}
use Rattle.tetra_speech.specs.Words.{half_type4}
use Rattle.tetra_speech.specs.lemmas.Parts.{trellis_half, uncoded_half}
use Rattle.tetra_speech.proofs.Sent.{is_half_type3}
use Rattle.tetra_speech.proofs.Sortings.{half_sorted_is}
use Rattle.tetra_speech.proofs.encoding.encode_half.Goals as goal

pub returns-clause-bits : goal.returns-clause-bits
unfolding half_type4
returns-clause-bits c =
    let bits = c.half_message.result in
    let size = c.half_message.ensures.size in
    let is = half_sorted_is bits size in
    let other : length bits ≡ 282 → ⊥ = λ e. absurd (omega (arith, size, e)) in
    let coded : c.part.result ≡ trellis_part bits =
    c.part.ensures.bits ∙ ap (λ x. take 90 (drop 51 x)) c.half_sorted-sorted.ensures.bits ∙ is.coded ∙ trellis_half bits other
    in
    let uncoded : c.part-2.result ≡ uncoded_part bits =
    c.part-2.ensures.bits ∙ ap (take 51) c.half_sorted-sorted.ensures.bits ∙ is.uncoded ∙ uncoded_half bits other
    in
    let type3 = is_half_type3 c.args.frame.now bits c.part.result c.part-2.result c.keep-sent.result c.half_message.ensures.bits size coded
    uncoded c.keep-sent.ensures.word in
    c.bits_out.ensures.value ∙ ap (placed false 216 (matrix_place 24 9)) (c.joined.ensures.bits ∙ type3)
