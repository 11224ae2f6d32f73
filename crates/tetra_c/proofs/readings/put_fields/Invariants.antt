use Rattle.std.proofs.Common.{◌≡◌, ◌<◌, ◌-◌, length, map, get_or}
use Rattle.tetra_session.specs.Heard.{is_good}
use Rattle.tetra_session.specs.Readers.{read_field}
use Rattle.tetra_session.specs.declared.front.FrontField.{FrontField}
use Rattle.tetra_c.specs.Readings.{ArePutTo}
use Rattle.tetra_c.proofs.readings.put_fields.Given as goal

-- the fields so far, and whether the last of them is good
abbrev pub invariant-loop-i : goal.invariant-loop-i
invariant-loop-i l =
    let fields = map (read_field l.code.0) l.fields in
    record {
      size : length l.out ≡ 4;
      put : ArePutTo fields l.initial.out l.from → ArePutTo fields l.out l.i;
      last : l.from < l.i → (other : FrontField) → l.good ≡ is_good (read_field l.code.0 (get_or l.fields (l.i - 1) other)).reading.mark;
    }
