use Rattle.std.proofs.Common.{◌≡◌, length, take, drop, map}
use Rattle.tetra_session.specs.Heard.{field_heard}
use Rattle.tetra_session.proofs.fields.hear_fields.Given as goal

abbrev pub invariant-loop-i : goal.invariant-loop-i
invariant-loop-i l = record {
  size : length l.fields ≡ length l.initial.fields;
  so_far : take l.i l.fields ≡ map (field_heard l.dir l.key l.block l.soft) (take l.i l.places);
  behind : drop l.i l.fields ≡ drop l.i l.initial.fields;
}
