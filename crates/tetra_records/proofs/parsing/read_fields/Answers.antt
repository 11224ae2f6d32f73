use Rattle.std.proofs.Common.{rules}
use Rattle.std.proofs.lemmas.Bool.{false≢true}
use Rattle.std.specs.Prelude.{IsErr}
use Rattle.tetra_records.proofs.Pads.{third_pad, no_pads}
use Rattle.tetra_records.proofs.parsing.read_fields.Goals as goal

pub returns-in_default-unpack-2-clause-pad : goal.returns-in_default-unpack-2-clause-pad
returns-in_default-unpack-2-clause-pad c =
    let failed : IsErr c.unpack-3.result = search rules in
    third_pad c.args.bytes.now c.split_at.result.0.now c.split_at.result.1.now c.split_at-2.result.0.now c.split_at-2.result.1.now c.args.a c.args.b c.args.c
    (search rules) (search rules) (search rules) (search rules) (search rules) (c.unpack-3.ensures.pad.0 failed)

pub returns-clause-pad : goal.returns-clause-pad
returns-clause-pad c =
    no_pads c.args.bytes.now c.split_at.result.0.now c.split_at.result.1.now c.split_at-2.result.0.now c.split_at-2.result.1.now c.args.a c.args.b c.args.c
    (search rules) (search rules) (search rules) (search rules) (search rules)
    (λ h. false≢true (c.in-Ok.ensures.pad.1 h)) (λ h. false≢true (c.in-Ok-unpack.ensures.pad.1 h)) (λ h. false≢true (c.in-Ok-unpack-2.ensures.pad.1 h))
