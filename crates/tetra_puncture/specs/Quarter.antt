-- The code of rate 1/4 by lanes: what its outputs cost from the even states. This project's own.
use Rattle.std.specs.Prelude.{◌≡◌, ℕ, ◌+◌, ◌*◌, ◌<◌, ◌≤◌, Bool, false, not, List, ℤ}
use Rattle.tetra_bits.specs.Cost.{cost}
use Rattle.tetra_bits.specs.Soft.{value_at}
use Rattle.tetra_mother.specs.Generators.{quarter}
use Rattle.tetra_mother.specs.Mother.{edge}

-- the code of rate 1/4, by its terms
pub record IsQuarter (taps : ℕ → ℕ → Bool) (outs : ℕ) : Type 0 where
  pub four : outs ≡ 4
  pub terms : (i j : ℕ) → 1 ≤ i → i ≤ 4 → j < 5 → taps i j ≡ quarter i j

-- the cost of four values as the outputs with bit 0 from state 2 i
unfoldable pub quarter_cost : List ℤ → ℕ → ℕ
quarter_cost values i =
    cost (value_at values 0) (edge quarter (2 * i) false 1) + cost (value_at values 1) (edge quarter (2 * i) false 2)
    + cost (value_at values 2) (edge quarter (2 * i) false 3) + cost (value_at values 3) (edge quarter (2 * i) false 4)

-- and as their complements
unfoldable pub quarter_turned : List ℤ → ℕ → ℕ
quarter_turned values i =
    cost (value_at values 0) (not (edge quarter (2 * i) false 1))
    + cost (value_at values 1) (not (edge quarter (2 * i) false 2))
    + cost (value_at values 2) (not (edge quarter (2 * i) false 3))
    + cost (value_at values 3) (not (edge quarter (2 * i) false 4))
