use Rattle.std.proofs.Common.{◌≡◌, ◌+◌, ◌++◌, length, take, drop}
use Rattle.tetra_bursts.specs.Slot.{levels}
use Rattle.tetra_bursts.proofs.writing.copy_part.Given as goal

abbrev pub invariant-loop-i : goal.invariant-loop-i
invariant-loop-i l = record { size : length l.slot ≡ 510; rest : drop (l.at + l.count) l.slot ≡ drop (l.at + l.count) l.fn.slot; so_far : take (l.at + l.i) l.slot ≡ take l.at l.fn.slot ++ levels l.bits l.skipped l.i }
