use Rattle.std.proofs.Common.{◌≡◌, ◌≤◌, length}
use Rattle.tetra_session.proofs.fields.keep_fields.Given as goal

abbrev pub invariant-loop : goal.invariant-loop
invariant-loop g l = record {
  filled : length l.fields.items ≡ l.counter;
  short : l.counter ≤ l.count;
}
