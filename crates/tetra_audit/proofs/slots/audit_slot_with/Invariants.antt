use Rattle.std.proofs.Common.{◌≡◌, ◌+◌, take, drop, sum_by}
use Rattle.tetra_audit.specs.Fields.{field_length}
use Rattle.tetra_audit.specs.Verdicts.{fields_verdict, slot_verdict}
use Rattle.tetra_audit.proofs.slots.audit_slot_with.Given as goal

abbrev pub invariant-loop-i : goal.invariant-loop-i
invariant-loop-i l =
    record {
      at_is : l.at ≡ 1 + sum_by field_length (take l.i l.front.fields.items);
      left : slot_verdict l.code l.front l.claim ≡ fields_verdict l.code.0 l.i (drop l.i l.front.fields.items) (drop l.at l.claim);
    }
