use Rattle.std.proofs.Common.{◌≡◌, length, ap, arith, ◌∙◌}
use Rattle.tetra_parity.specs.declared.kind.Parity.TheVariants.{Eight}
use Rattle.tetra_parity.specs.lemmas.Messages.{length-with_parity}
use Rattle.tetra_speech.proofs.Sent.{is_whole_message}
use Rattle.tetra_speech.proofs.encoding.whole_message.Goals as goal

pub part-requires : goal.part-requires
part-requires c =
    let size = ap length c.add8-protected.ensures ∙ length-with_parity Eight c.alternated.result in
    omega (arith, size, c.alternated.ensures.size, c.class_two.ensures.size)

pub returns-clause-bits : goal.returns-clause-bits
returns-clause-bits c =
    let size : length c.alternated.result ≡ 60 = omega (arith, c.alternated.ensures.size, c.class_two.ensures.size) in
    let whole = is_whole_message c.args.a.now c.args.b.now c.class_two.result c.class_two-2.result c.alternated.result
    c.add8-protected.result c.part.result c.class_two.ensures.bits c.class_two-2.ensures.bits c.alternated.ensures.bits size c.add8-protected.ensures
    c.part.ensures.bits in
    rw (c.joined-2.ensures.bits, c.joined.ensures.bits) whole
