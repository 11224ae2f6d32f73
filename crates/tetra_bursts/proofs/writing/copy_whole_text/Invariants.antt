use Rattle.std.proofs.Common.{◌≡◌, ◌+◌, ◌++◌, length, take}
use Rattle.tetra_bursts.specs.Slot.{levels, text_bits}
use Rattle.tetra_bursts.proofs.writing.copy_whole_text.Given as goal

abbrev pub invariant-loop-i : goal.invariant-loop-i
invariant-loop-i l = record { size : length l.slot ≡ 510; so_far : take (l.at + l.i) l.slot ≡ take l.at l.fn.slot ++ levels (text_bits l.text) l.skipped l.i }
