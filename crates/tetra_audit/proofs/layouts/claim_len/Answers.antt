use Rattle.std.proofs.Common.{◌+◌, sum_by, arith, ap, ◌∙◌}
use Rattle.std.proofs.lemmas.List.{take_all}
use Rattle.tetra_audit.specs.Fields.{field_length, claim_length}
use Rattle.tetra_audit.proofs.FieldsInOrder.{claim_at_most}
use Rattle.tetra_audit.proofs.layouts.claim_len.Goals as goal

pub returns-clause-length : goal.returns-clause-length
unfolding claim_length
returns-clause-length c =
    let whole = take_all c.loop-field.field-index c.as_slice-field-items.result.now (omega arith) in
    c.loop-field.invariant.len_is ∙ ap (λ fields. 1 + sum_by field_length fields) (whole ∙ c.as_slice-field-items.ensures.value)

pub returns-clause-most : goal.returns-clause-most
returns-clause-most c = omega (arith, returns-clause-length c, claim_at_most c.args.front.now c.requires)
