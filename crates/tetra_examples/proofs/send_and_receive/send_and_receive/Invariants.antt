use Rattle.std.proofs.Common.{◌≡◌, length, take, All}
use Rattle.tetra_bits.specs.Soft.{IsSoft}
use Rattle.tetra_examples.proofs.send_and_receive.send_and_receive.Given as goal

-- the values so far
abbrev pub invariant-loop-k : goal.invariant-loop-k
invariant-loop-k l = record {
  size : length l.soft ≡ 510;
  each : All IsSoft (take l.k l.soft);
}
