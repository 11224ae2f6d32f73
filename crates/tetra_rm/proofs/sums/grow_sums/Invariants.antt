use Rattle.std.proofs.Common.{◌≡◌, ℕ, ◌+◌, ◌<◌, List, get_or}
use Rattle.std.specs.Int.Bits.{bit_xor}
use Rattle.tetra_rm.proofs.sums.grow_sums.Given as goal

-- the first half stands as before, and the second is written below a place
pub record GrownSums (old now : List ℕ) (size row at : ℕ) : Type 0 where
  pub first : (k : ℕ) → k < size → get_or now k 0 ≡ get_or old k 0
  pub second : (k : ℕ) → k < at → get_or now (size + k) 0 ≡ bit_xor (get_or old k 0) row

abbrev pub invariant-loop-at : goal.invariant-loop-at
invariant-loop-at l = GrownSums l.fn.sums l.sums l.size l.row l.at
