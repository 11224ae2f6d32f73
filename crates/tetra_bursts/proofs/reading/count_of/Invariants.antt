use Rattle.std.proofs.Common.{◌≡◌, ◌+◌, drop}
use Rattle.tetra_bursts.specs.Table.{count_of}
use Rattle.tetra_bursts.proofs.reading.count_of.Given as goal

abbrev pub invariant-loop-j : goal.invariant-loop-j
invariant-loop-j l = l.all + count_of l.part (drop l.j l.table) ≡ count_of l.part l.table
