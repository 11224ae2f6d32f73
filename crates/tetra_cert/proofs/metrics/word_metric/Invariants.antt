use Rattle.std.proofs.Common.{◌≡◌, ◌≤◌, ◌*◌}
use Rattle.tetra_bits.specs.Cost.{cost_at}
use Rattle.tetra_bits.specs.Sums.{sum_below}
use Rattle.tetra_cert.proofs.metrics.word_metric.Given as goal

abbrev pub invariant-loop-k : goal.invariant-loop-k
invariant-loop-k l = record { sum_is : l.sum ≡ sum_below l.k (cost_at l.soft l.word); small : l.sum ≤ 32768 * l.k }
