-- The label of a branch: its outputs as a number, the first one highest, where outputs past the last are 0. This
-- project's own.
use Rattle.std.specs.Prelude.{◌≡◌, ℕ, ◌+◌, ◌*◌, ◌<◌, ◌≤◌, Bool, true, false, cond, nat_lt, List, slice_index, ℤ, pos}
use Rattle.tetra_bits.specs.Cost.{cost}
use Rattle.tetra_bits.specs.Soft.{value_at}
use Rattle.tetra_bits.specs.Sums.{bit_number}
use Rattle.tetra_mother.specs.Mother.{edge}
use Rattle.tetra_puncture.specs.declared.branches.Labels.{Labels}

-- four outputs as a number
unfoldable pub number_of : Bool → Bool → Bool → Bool → ℕ
number_of a b c d = 8 * bit_number a + 4 * bit_number b + 2 * bit_number c + bit_number d

-- output i, counted from 0, of the branch from state s with bit b
unfoldable pub branch_output : (ℕ → ℕ → Bool) → ℕ → ℕ → Bool → ℕ → Bool
branch_output taps outs s b i = cond (nat_lt i outs) (edge taps s b (i + 1)) false

unfoldable pub branch_label : (ℕ → ℕ → Bool) → ℕ → ℕ → Bool → ℕ
branch_label taps outs s b =
    number_of (branch_output taps outs s b 0) (branch_output taps outs s b 1)
    (branch_output taps outs s b 2) (branch_output taps outs s b 3)

-- the labels of the branches with bit b, by state
unfoldable pub AreLabels : (ℕ → ℕ → Bool) → ℕ → Bool → List ℕ → Type 0
AreLabels taps outs b labels = (s : ℕ) → s < 16 → slice_index labels s ≡ branch_label taps outs s b

-- the label that is kept for the branch from state s with bit b
unfoldable pub label_at : Labels → ℕ → Bool → ℕ
label_at labels s true = slice_index labels.one s
label_at labels s false = slice_index labels.zero s

-- the labels of all branches
unfoldable pub HasLabels : (ℕ → ℕ → Bool) → ℕ → Labels → Type 0
HasLabels taps outs labels = (s : ℕ) (b : Bool) → s < 16 → label_at labels s b ≡ branch_label taps outs s b

-- the values of step t, and zeros past the last output
pub record IsStep (outs : ℕ) (wide : List ℤ) (t : ℕ) (values : List ℤ) : Type 0 where
  pub within : (i : ℕ) → i < outs → value_at values i ≡ value_at wide (outs * t + i)
  pub past : (i : ℕ) → outs ≤ i → value_at values i ≡ pos 0

-- the costs of four values, by label
unfoldable pub AreCosts : List ℤ → List ℕ → Type 0
AreCosts values costs =
    (a b c d : Bool)
    → slice_index costs (number_of a b c d) ≡ cost (value_at values 0) a + cost (value_at values 1) b
    + cost (value_at values 2) c + cost (value_at values 3) d
