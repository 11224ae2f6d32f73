-- The slot words that a receiver for C keeps of a timeslot.
use Rattle.std.specs.Prelude.{ℕ, ◌≡◌, ◌≤◌, ◌-◌, ℤ, List, map, take}
use Rattle.tetra_bits.specs.Numbered.{numbered}
use Rattle.tetra_bits.specs.Soft.{value_at}
use Rattle.tetra_diag.specs.Diagonal.{last}
use Rattle.tetra_diag.specs.Ring.{IsRing, turned}
use Rattle.tetra_c.specs.Values.{clamped}
use Rattle.tetra_c.specs.declared.kept_words.TetraKeptWord.{TetraKeptWord}
use Rattle.tetra_c.specs.declared.kept_words.TetraKeptWords.{TetraKeptWords}

-- the soft values of a word
abbrev pub word_values : TetraKeptWord → List ℤ
word_values word = numbered (λ k. clamped (value_at word.values (k - 1))) 432

-- the words that are kept, as they stand
abbrev pub kept_words : TetraKeptWords → List (List ℤ)
kept_words kept = map word_values (take kept.count kept.words)

-- the last n of these words are kept
pub record KeepsLast (n : ℕ) (words : List (List ℤ)) (kept : TetraKeptWords) : Type 0 where
  pub few : kept.count ≤ n
  pub ring : IsRing n kept.oldest (kept_words kept)
  pub last : turned kept.oldest (kept_words kept) ≡ last n words

-- what is kept of a timeslot stands for the words that its slots brought: nothing is asked where they are not spread
abbrev pub KeptStands : ℕ → List (List ℤ) → TetraKeptWords → Type 0
KeptStands n words kept = 1 ≤ n → KeepsLast n words kept
