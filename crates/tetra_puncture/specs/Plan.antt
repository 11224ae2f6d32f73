-- A punctured code as plain data (EN 300 392-2 clause 8.2.3).
use Rattle.std.specs.Prelude.{ℕ, ◌+◌, ◌*◌, ◌<◌, ◌≤◌, ◌≡◌, Bool, false, List, length, ◌++◌, replicate}
use Rattle.tetra_bits.specs.Numbered.{numbered}
use Rattle.tetra_mother.specs.Mother.{mother_bit}

-- The taps and the outputs of a mother code, the steps of a message, and the place of each sent bit in the mother word.
-- Sent bits and places are numbered from 1.
pub record CodePlan : Type 0 where
  pub taps : ℕ → ℕ → Bool
  pub outs : ℕ
  pub steps : ℕ
  pub sent : ℕ
  pub place : ℕ → ℕ

-- a message and the four tail bits behind it, which are 0
unfoldable pub tailed : List Bool → List Bool
tailed m = m ++ replicate 4 false

-- sent bit j of a message: the mother bit at its place
unfoldable pub sent_bit : CodePlan → List Bool → ℕ → Bool
sent_bit p m j = mother_bit p.taps p.outs (tailed m) (p.place j)

-- the sent word of a message
unfoldable pub word : CodePlan → List Bool → List Bool
word p m = numbered (sent_bit p m) p.sent

-- a message has a bit for each step but the last four, which take the tail bits
abbrev pub IsMessage : CodePlan → List Bool → Type 0
IsMessage p m = length m + 4 ≡ p.steps

-- one to four outputs, 6 to 292 steps, at most 432 sent bits
pub record HasSizes (p : CodePlan) : Type 0 where
  pub few_outs : (1 ≤ p.outs) × (p.outs ≤ 4)
  pub few_steps : (6 ≤ p.steps) × (p.steps ≤ 292)
  pub few_sent : p.sent ≤ 432

-- places rise strictly
abbrev pub PlacesRise : CodePlan → Type 0
PlacesRise p = (j : ℕ) → 1 ≤ j → j < p.sent → p.place j < p.place (j + 1)

-- places lie in the mother word
abbrev pub PlacesLie : CodePlan → Type 0
PlacesLie p = (j : ℕ) → 1 ≤ j → j ≤ p.sent → (1 ≤ p.place j) × (p.place j ≤ p.outs * p.steps)

-- different messages have different words
abbrev pub WordsDiffer : CodePlan → Type 0
WordsDiffer p = (m n : List Bool) → IsMessage p m → IsMessage p n → word p m ≡ word p n → m ≡ n
