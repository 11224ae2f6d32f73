use Rattle.std.proofs.Common.{length, ap, arith, ◌∙◌}
use Rattle.tetra_parity.specs.declared.kind.Parity.TheVariants.{Four}
use Rattle.tetra_parity.specs.lemmas.Messages.{length-with_parity}
use Rattle.tetra_speech.proofs.Sent.{is_half_message}
use Rattle.tetra_speech.proofs.encoding.half_message.Goals as goal

pub part-requires : goal.part-requires
part-requires c =
    let size = ap length c.add4.ensures ∙ length-with_parity Four c.class_two.result in
    omega (arith, size, c.class_two.ensures.size)

pub returns-clause-bits : goal.returns-clause-bits
returns-clause-bits c =
    c.joined.ensures.bits
    ∙ is_half_message c.args.frame.now c.class_two.result c.add4.result c.part.result c.class_two.ensures.bits c.class_two.ensures.size
    c.add4.ensures c.part.ensures.bits
