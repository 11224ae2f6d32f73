use Rattle.std.proofs.Common.{◌≡◌, ◌≤◌, ◌+◌, ◌++◌, ◌∷◌, [], length, take, drop}
use Rattle.std.specs.List.{flat_map}
use Rattle.tetra_records.specs.Readings.{field_bytes}
use Rattle.tetra_records.specs.lemmas.Lengths.{rooms_left}
use Rattle.tetra_records.proofs.readings.write_reading.Given as goal

-- the fields so far, and room for the others
abbrev pub invariant-loop-field : goal.invariant-loop-field
invariant-loop-field l =
    record {
      bytes : take l.end l.bytes ≡ (take l.fn.at l.fn.bytes ++ l.fn.reading.letter ∷ []) ++ flat_map (field_bytes l.form) (take l.field-index l.fn.reading.fields.items);
      room : l.end + rooms_left (drop l.field-index l.fn.reading.fields.items) ≤ l.fn.at + 18743;
      size : length l.bytes ≡ length l.fn.bytes;
    }
