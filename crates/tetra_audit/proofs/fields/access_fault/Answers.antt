use Rattle.std.proofs.Common.{◌∙◌, ap}
use Rattle.tetra_audit.specs.Parts.{plain_why}
use Rattle.tetra_audit.proofs.FieldCases.{is_access}
use Rattle.tetra_audit.proofs.fields.access_fault.Goals as goal

pub returns : goal.returns
returns c =
    c.plain_fault.ensures
    ∙ ap (λ reading. plain_why reading c.args.bytes.now)
    (is_access c.args.code.now.0 c.args.soft.now c.decode-read.result.message c.decode-read.result.metric c.message_bits.result c.decode-read.ensures.best c.decode-read.ensures.metric c.message_bits.ensures.bits)
