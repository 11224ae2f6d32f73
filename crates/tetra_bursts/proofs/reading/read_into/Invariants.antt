use Rattle.std.proofs.Common.{◌≡◌, ◌+◌, ◌++◌, length, take, drop}
use Rattle.tetra_bursts.specs.Table.{total, count_of}
use Rattle.tetra_bursts.specs.Slot.{read}
use Rattle.tetra_bursts.proofs.reading.read_into.Given as goal

abbrev pub invariant-loop-j : goal.invariant-loop-j
invariant-loop-j l = record {
  size : l.at + total (drop l.j l.table) ≡ l.fn.at + total l.table;
  long : length l.values ≡ count_of l.part l.table;
  room : l.filled + count_of l.part (drop l.j l.table) ≡ count_of l.part l.table;
  rest : take l.filled l.values ++ read l.part (drop l.j l.table) (drop l.at l.soft) ≡ read l.part l.table (drop l.fn.at l.soft);
}
