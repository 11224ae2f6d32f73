use Rattle.std.proofs.Common.{◌≡◌, length, arith, ◌∙◌}
use Rattle.tetra_parity.specs.declared.kind.Parity.TheVariants.{Eight}
use Rattle.tetra_puncture.specs.Places.{speech_whole}
use Rattle.tetra_speech.specs.Reading.{whole_reading}
use Rattle.tetra_speech.specs.Frames.{whole_bits}
use Rattle.tetra_speech.proofs.Pieces.{all_behind}
use Rattle.tetra_speech.proofs.Readings.{in_parts, is_reading_over, whole_reading_is}
use Rattle.tetra_speech.proofs.decoding.decode_whole_into.Goals as goal

pub returns-clause-parts : goal.returns-clause-parts
returns-clause-parts g c =
    let soft = c.args.soft.now in
    let message = c.solve_table-metric.new.message in
    let solved = c.solve_table-metric.ensures in
    let size : length message ≡ 180 = omega (arith, solved.size) in
    in_parts _ _ _ _ (whole_reading soft) (is_reading_over speech_whole Eight 102 112 whole_bits soft c.values.result message c.part.result c.plain_front.result
    c.whole_bits_into.new.bits c.mark.result c.solve_table-metric.result (g.T.Table.rows_of c.solve_table-metric.new.table)
    (c.values.ensures.values ∙ all_behind 102 330 soft c.requires)
    (record { best = solved.message; costs = solved.metric; exact = solved.exact })
    (c.part.ensures.bits ∙ all_behind 112 68 message size) c.mark.ensures.value c.plain_front.ensures.bits
    c.whole_bits_into.ensures.bits
    ∙ whole_reading_is soft)
