use Rattle.std.proofs.Common.{◌≡◌, ◌≤◌, ◌+◌, ◌-◌, ◌++◌, length, map, take, drop, get_or}
use Rattle.std.specs.List.{flat_map}
use Rattle.tetra_records.specs.Readings.{field_bytes}
use Rattle.tetra_records.specs.lemmas.Lengths.{rooms_left}
use Rattle.tetra_session.specs.Heard.{is_good}
use Rattle.tetra_session.specs.Readers.{read_field}
use Rattle.tetra_session.specs.declared.front.FrontField.{FrontField}
use Rattle.tetra_c.proofs.records.put_fields.Given as goal

-- the fields so far, room for the others, and whether the last is good
abbrev pub invariant-loop-i : goal.invariant-loop-i
invariant-loop-i l =
    let fields = map (read_field l.code.0) l.fields in
    record {
      bytes : take l.end l.bytes ≡ take l.at l.initial.bytes ++ flat_map (field_bytes l.form) (take l.i fields);
      room : l.end + rooms_left (drop l.i fields) ≤ l.at + rooms_left fields;
      size : length l.bytes ≡ 18743;
      last : 1 ≤ l.i → (other : FrontField) → l.last_good ≡ is_good (read_field l.code.0 (get_or l.fields (l.i - 1) other)).reading.mark;
    }
