use Rattle.std.proofs.Common.{◌≡◌}
use Rattle.tetra_bits.specs.Cost.{cost_at}
use Rattle.tetra_bits.specs.Sums.{sum_below}
use Rattle.tetra_rm.proofs.walk.metric_of_word.Given as goal

abbrev pub invariant-loop-k : goal.invariant-loop-k
invariant-loop-k l = l.sum ≡ sum_below l.k (cost_at l.soft l.word)
