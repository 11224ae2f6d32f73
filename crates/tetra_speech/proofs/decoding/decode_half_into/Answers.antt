use Rattle.std.proofs.Common.{◌≡◌, length, arith, ◌∙◌}
use Rattle.tetra_parity.specs.declared.kind.Parity.TheVariants.{Four}
use Rattle.tetra_puncture.specs.Places.{speech_half}
use Rattle.tetra_speech.specs.Reading.{half_reading}
use Rattle.tetra_speech.specs.Frames.{half_bits}
use Rattle.tetra_speech.proofs.Pieces.{all_behind}
use Rattle.tetra_speech.proofs.Readings.{in_parts, is_reading_over, half_reading_is}
use Rattle.tetra_speech.proofs.decoding.decode_half_into.Goals as goal

pub returns-clause-parts : goal.returns-clause-parts
returns-clause-parts g c =
    let soft = c.args.soft.now in
    let message = c.solve_table-metric.new.message in
    let solved = c.solve_table-metric.ensures in
    let size : length message ≡ 90 = omega (arith, solved.size) in
    in_parts _ _ _ _ (half_reading soft) (is_reading_over speech_half Four 51 56 half_bits soft c.values.result message c.part.result c.plain_front.result
    c.half_bits_into.new.bits c.mark.result c.solve_table-metric.result (g.T.Table.rows_of c.solve_table-metric.new.table)
    (c.values.ensures.values ∙ all_behind 51 165 soft c.requires)
    (record { best = solved.message; costs = solved.metric; exact = solved.exact })
    (c.part.ensures.bits ∙ all_behind 56 34 message size) c.mark.ensures.value c.plain_front.ensures.bits
    c.half_bits_into.ensures.bits
    ∙ half_reading_is soft)
