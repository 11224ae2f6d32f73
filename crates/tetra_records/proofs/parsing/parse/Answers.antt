use Rattle.std.proofs.Common.{subst, ◌∙◌, get_or, [], ◌∷◌}
use Rattle.tetra_records.specs.Layouts.{head_bytes, IsSent, MaskHasPad, FieldsHavePad}
use Rattle.tetra_records.proofs.Made.{lengths_made, made, pad_of_fields, no_pad, rest_is}
use Rattle.tetra_records.proofs.parsing.parse.Goals as goal

pub returns-in_default-read_fields-clause-pad : goal.returns-in_default-read_fields-clause-pad
returns-in_default-read_fields-clause-pad c =
    pad_of_fields c.args.layout c.args.bytes.now c.in-Ok.access c.in-Ok-read_mask.sent.0 c.in-Ok-read_mask.sent.1 c.field_bits.result c.requires.head
    (subst (λ mask. IsSent c.args.layout.letter mask c.in-Ok-read_mask.sent.0 c.in-Ok-read_mask.sent.1) c.mask_of.ensures c.in-Ok-read_mask.ensures.sent) c.field_bits.ensures
    (subst (FieldsHavePad (get_or c.field_bits.result 0 0 ∷ get_or c.field_bits.result 1 0 ∷ get_or c.field_bits.result 2 0 ∷ [])) (rest_is c.args.bytes.now c.head_len.result (head_bytes c.args.layout) c.head_len.ensures) c.in_default-read_fields.ensures.pad)

pub returns-clause-made : goal.returns-clause-made
returns-clause-made c =
    made c.args.layout c.args.bytes.now c.in-Ok.access c.in-Ok-read_mask.sent.0 c.in-Ok-read_mask.sent.1 c.field_bits.result c.requires.head
    (subst (λ mask. IsSent c.args.layout.letter mask c.in-Ok-read_mask.sent.0 c.in-Ok-read_mask.sent.1) c.mask_of.ensures c.in-Ok-read_mask.ensures.sent) c.field_bits.ensures c.from_fields.result c.in-Ok-read_fields.fields.a c.in-Ok-read_fields.fields.b c.in-Ok-read_fields.fields.c
    c.from_fields.ensures.body
    (c.from_fields.ensures.lengths c.args.layout.mode (lengths_made c.args.layout c.args.bytes.now c.in-Ok.access c.in-Ok-read_mask.sent.0 c.in-Ok-read_mask.sent.1 c.field_bits.result c.requires.head
    (subst (λ mask. IsSent c.args.layout.letter mask c.in-Ok-read_mask.sent.0 c.in-Ok-read_mask.sent.1) c.mask_of.ensures c.in-Ok-read_mask.ensures.sent) c.field_bits.ensures c.in-Ok-read_fields.fields.a c.in-Ok-read_fields.fields.b c.in-Ok-read_fields.fields.c c.in-Ok-read_fields.ensures.fields.0))
    c.in-Ok.ensures.access.0 c.in-Ok.ensures.access.1 c.in-Ok-read_fields.ensures.fields.0 (c.in-Ok-read_fields.ensures.fields.1 ∙ (rest_is c.args.bytes.now c.head_len.result (head_bytes c.args.layout) c.head_len.ensures))

pub returns-clause-pad : goal.returns-clause-pad
returns-clause-pad c =
    no_pad c.args.layout c.args.bytes.now c.in-Ok.access c.in-Ok-read_mask.sent.0 c.in-Ok-read_mask.sent.1 c.field_bits.result c.requires.head
    (subst (λ mask. IsSent c.args.layout.letter mask c.in-Ok-read_mask.sent.0 c.in-Ok-read_mask.sent.1) c.mask_of.ensures c.in-Ok-read_mask.ensures.sent) c.field_bits.ensures
    c.in-Ok.ensures.pad (subst (λ mask. MaskHasPad c.args.layout.letter mask → ⊥) c.mask_of.ensures c.in-Ok-read_mask.ensures.pad)
    (subst (λ l. FieldsHavePad (get_or c.field_bits.result 0 0 ∷ get_or c.field_bits.result 1 0 ∷ get_or c.field_bits.result 2 0 ∷ []) l → ⊥) (rest_is c.args.bytes.now c.head_len.result (head_bytes c.args.layout) c.head_len.ensures) c.in-Ok-read_fields.ensures.pad)
