use Rattle.std.proofs.Common.{◌≡◌, ◌≤◌, ◌+◌, ◌++◌, ◌∷◌, [], take, drop}
use Rattle.std.specs.List.{flat_map}
use Rattle.arrayvec.specs.ArrayVec.{array_vec_len}
use Rattle.tetra_records.specs.Readings.{field_bytes}
use Rattle.tetra_records.specs.lemmas.Lengths.{rooms_left}
use Rattle.tetra_records.proofs.readings.add_reading.Given as goal

abbrev pub invariant-loop-field : goal.invariant-loop-field
invariant-loop-field g l =
    record {
      bytes : l.out.items ≡ l.fn.out.items ++ (l.fn.reading.letter ∷ []) ++ flat_map (field_bytes l.form) (take l.field-index l.fn.reading.fields.items);
      room : array_vec_len l.out + rooms_left (drop l.field-index l.fn.reading.fields.items) ≤ g.row.N;
    }
