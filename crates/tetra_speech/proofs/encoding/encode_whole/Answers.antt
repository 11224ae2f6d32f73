use Rattle.std.proofs.Common.{◌≡◌, false, take, drop, ap, ◌∙◌}
use Rattle.tetra_interleave.specs.Matrix.{matrix_place}
use Rattle.tetra_interleave.specs.Placed.{placed}
use Rattle.tetra_speech.specs.Frames.{trellis_part, uncoded_part}
use Rattle.tetra_speech.specs.Words.{whole_type4}
use Rattle.tetra_speech.specs.lemmas.Parts.{trellis_whole, uncoded_whole}
use Rattle.tetra_speech.proofs.Sent.{is_whole_type3}
use Rattle.tetra_speech.proofs.Sortings.{whole_sorted_is}
use Rattle.tetra_speech.proofs.encoding.encode_whole.Goals as goal

pub returns-clause-bits : goal.returns-clause-bits
unfolding whole_type4
returns-clause-bits c =
    let bits = c.whole_message.result in
    let size = c.whole_message.ensures.size in
    let is = whole_sorted_is bits size in
    let coded : c.part.result ≡ trellis_part bits =
    c.part.ensures.bits ∙ ap (λ x. take 180 (drop 102 x)) c.whole_sorted-sorted.ensures.bits ∙ is.coded ∙ trellis_whole bits size
    in
    let uncoded : c.part-2.result ≡ uncoded_part bits =
    c.part-2.ensures.bits ∙ ap (take 102) c.whole_sorted-sorted.ensures.bits ∙ is.uncoded ∙ uncoded_whole bits size
    in
    let type3 = is_whole_type3 c.args.a.now c.args.b.now bits c.part.result c.part-2.result c.keep-sent.result c.whole_message.ensures.bits size coded
    uncoded c.keep-sent.ensures.word in
    c.bits_out.ensures.value ∙ ap (placed false 432 (matrix_place 24 18)) (c.joined.ensures.bits ∙ type3)
