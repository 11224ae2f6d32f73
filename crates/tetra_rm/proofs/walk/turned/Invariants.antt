use Rattle.std.proofs.Common.{◌≡◌, ◌+◌}
use Rattle.tetra_bits.specs.Cost.{cost_at}
use Rattle.tetra_bits.specs.Digits.{digits}
use Rattle.tetra_bits.specs.Sums.{sum_below}
use Rattle.tetra_rm.specs.Code.{access_word}
use Rattle.tetra_rm.specs.Turning.{turned_message}
use Rattle.tetra_rm.proofs.walk.turned.Given as goal

-- the costs in front of a place are those of the new word
abbrev pub invariant-loop-k : goal.invariant-loop-k
invariant-loop-k l =
    l.sum + sum_below l.k (cost_at l.soft (access_word l.rows.0 (digits 14 l.message)))
    ≡ l.metric + sum_below l.k (cost_at l.soft (access_word l.rows.0 (turned_message (digits 14 l.message) l.bit)))
