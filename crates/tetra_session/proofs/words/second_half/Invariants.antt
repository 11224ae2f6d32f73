use Rattle.std.proofs.Common.{◌≡◌, take, drop}
use Rattle.tetra_session.proofs.words.second_half.Given as goal

abbrev pub invariant-loop-i : goal.invariant-loop-i
invariant-loop-i l = l.half ≡ take l.i (drop 216 l.word)
