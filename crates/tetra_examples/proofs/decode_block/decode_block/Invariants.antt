use Rattle.std.proofs.Common.{◌≡◌, length}
use Rattle.tetra_examples.proofs.decode_block.decode_block.Given as goal

abbrev pub invariant-loop-k : goal.invariant-loop-k
invariant-loop-k l = length l.soft ≡ 216
