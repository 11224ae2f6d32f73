-- The outputs of a mother code, each as the list of all its bits.
use Rattle.std.specs.Prelude.{ℕ, ◌+◌, ◌-◌, ◌<◌, ◌≤◌, ◌≡◌, Bool, ◌&&◌, List, slice_index_or, []}
use Rattle.tetra_bits.specs.Order.{bit_at}
use Rattle.tetra_mother.specs.Mother.{bit_back, output, sum2}
use Rattle.tetra_puncture.specs.Plan.{tailed}

-- the bits that go in, with four zeros in front of them: entry t + 4 goes in at step t, which counts from 0
unfoldable pub IsPadded : List Bool → List Bool → Type 0
IsPadded m bits = (t j : ℕ) → t < 292 → j ≤ 4 → bit_at bits (t + 4 - j) ≡ bit_back (tailed m) (t + 1) j

-- the sum of the bits that taps take at step t, which counts from 0
unfoldable pub taps_sum : List Bool → List Bool → ℕ → Bool
taps_sum bits taps t = sum2 (λ j. bit_at bits (t + 4 - j) && bit_at taps j) 5

-- list i has output i + 1 of each step
unfoldable pub AreOutputs : (ℕ → ℕ → Bool) → ℕ → List Bool → List (List Bool) → Type 0
AreOutputs taps outs m all =
    (i t : ℕ) → i < outs → t < 292 → bit_at (slice_index_or all i []) t ≡ output taps (tailed m) (t + 1) (i + 1)
