use Rattle.std.proofs.Common.{◌≡◌, take}
use Rattle.tetra_session.proofs.words.first_half.Given as goal

abbrev pub invariant-loop-i : goal.invariant-loop-i
invariant-loop-i l = l.half ≡ take l.i l.word
