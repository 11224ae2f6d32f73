use Rattle.std.proofs.Common.{◌≡◌, ◌+◌, ◌*◌, ◌++◌, length, take}
use Rattle.std.specs.List.{flat_map}
use Rattle.tetra_records.specs.Readings.{row_bytes}
use Rattle.tetra_records.proofs.readings.put_table.Given as goal

abbrev pub invariant-loop-t : goal.invariant-loop-t
invariant-loop-t g l =
    record {
      bytes : take (l.at + 32 * l.t) l.bytes ≡ take l.at l.initial.bytes ++ flat_map row_bytes (take l.t (g.T.Table.rows_of l.table));
      size : length l.bytes ≡ length l.initial.bytes;
    }
