use Rattle.tetra_channels.proofs.Plain.{access_in_parts}
use Rattle.tetra_channels.proofs.access.Aach.decode2_into.Goals as goal

pub returns : goal.returns
returns c =
    let read = c.decode-read.ensures in
    access_in_parts c.args.code.now.0 c.args.soft.now c.decode-read.result.message c.decode-read.result.metric
    c.message_bits.result read.best read.metric c.message_bits.ensures.bits
