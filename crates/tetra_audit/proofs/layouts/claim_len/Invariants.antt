use Rattle.std.proofs.Common.{◌≡◌, ◌≤◌, ◌+◌, ◌*◌, take, sum_by}
use Rattle.tetra_audit.specs.Fields.{field_length}
use Rattle.tetra_audit.proofs.layouts.claim_len.Given as goal

abbrev pub invariant-loop-field : goal.invariant-loop-field
invariant-loop-field l = record { len_is : l.len ≡ 1 + sum_by field_length (take l.field-index l.field-items); few : l.len ≤ 1 + 9433 * l.field-index }
