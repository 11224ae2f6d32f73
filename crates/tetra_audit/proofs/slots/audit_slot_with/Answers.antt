use Rattle.std.proofs.Common.{◌≡◌, ◌+◌, ◌<◌, ◌≤◌, length, get_or, arith, rules, refl, sym, ap, ◌∙◌}
use Rattle.std.proofs.lemmas.List.Sums.{sum_by_more, sum_by_more_le}
use Rattle.tetra_audit.specs.Fields.{field_length, claim_length}
use Rattle.tetra_audit.proofs.FieldsInOrder.{other_letter, first_field, goes_on, stops, none_left, claim_at_most}
use Rattle.tetra_audit.proofs.slots.audit_slot_with.Goals as goal
use Rattle.tetra_audit.proofs.slots.audit_slot_with.Goals.{After-field_len}

-- the field of a turn, and that its bytes are there
inside : (c : After-field_len) → c.loop-i.i < length c.args.front.now.fields.items
inside c = omega (arith, ap length c.as_slice-field-items.ensures.value)

item : (c : After-field_len) → c.field-item.result ≡ get_or c.args.front.now.fields.items c.loop-i.i c.field-item.result
item c = c.field-item.is ∙ ap (λ fields. get_or fields c.loop-i.i c.field-item.result) c.as_slice-field-items.ensures.value

ends : (c : After-field_len) → c.loop-i.at + c.field_len.result ≤ length c.args.claim.now
unfolding claim_length
ends c =
    let there : field_length c.field-item.result ≡ field_length (get_or c.args.front.now.fields.items c.loop-i.i c.field-item.result) = ap field_length (item c) in
    omega (arith, c.loop-i.invariant.at_is, c.field_len.ensures.bytes, there, sum_by_more_le field_length c.args.front.now.fields.items c.loop-i.i c.field-item.result (inside c), c.requires.size)

pub bounds-claim-0 : goal.bounds-claim-0
unfolding claim_length
bounds-claim-0 c = omega arith

pub returns-then-claim-front : goal.returns-then-claim-front
returns-then-claim-front c = sym (other_letter c.args.code.now c.args.front.now c.args.claim.now c.if-claim-front.true)

pub loop-i-init : goal.loop-i-init
loop-i-init c = record { at_is = refl; left = first_field c.args.code.now c.args.front.now c.args.claim.now c.if-claim-front.false }

pub overflow_add-end : goal.overflow_add-end
overflow_add-end c = record { fits = omega (arith, ends c, c.requires.size, claim_at_most c.args.front.now c.requires.front) }

pub slice_bounds-field_fault-end : goal.slice_bounds-field_fault-end
slice_bounds-field_fault-end c = let fits = ends c in search rules

pub returns-in-Some : goal.returns-in-Some
returns-in-Some c =
    let at = (goal.at.returns-in-Some c).After-field_len in
    sym (c.loop-i.invariant.left ∙ stops c.args.code.now.0 c.args.front.now.fields.items c.args.claim.now c.loop-i.i c.loop-i.at (c.loop-i.at + c.field_len.result) c.field-item.result
    (inside at) (item at) (ap (λ n. c.loop-i.at + n) c.field_len.ensures.bytes) c.in-Some.why c.in-Some.ensures)

pub loop-i-preserved : goal.loop-i-preserved
loop-i-preserved c =
    let at = (goal.at.loop-i-preserved c).After-field_len in
    let there : field_length c.field-item.result ≡ field_length (get_or c.args.front.now.fields.items c.loop-i.i c.field-item.result) = ap field_length (item at) in
    record {
      at_is = omega (arith, c.loop-i.invariant.at_is, c.field_len.ensures.bytes, there, sum_by_more field_length c.args.front.now.fields.items c.loop-i.i c.field-item.result (inside at));
      left = c.loop-i.invariant.left ∙ goes_on c.args.code.now.0 c.args.front.now.fields.items c.args.claim.now c.loop-i.i c.loop-i.at (c.loop-i.at + c.field_len.result) c.field-item.result
          (inside at) (item at) (ap (λ n. c.loop-i.at + n) c.field_len.ensures.bytes) c.in_default.ensures;
    }

pub returns : goal.returns
returns c = sym (c.loop-i.invariant.left ∙ none_left c.args.code.now.0 c.args.front.now.fields.items c.args.claim.now c.loop-i.i c.loop-i.at (omega (arith, ap length c.as_slice-field-items.ensures.value)))
