-- The slot words that are kept of a timeslot, one word on.
use Rattle.std.proofs.Common.{ℕ, ◌+◌, ◌-◌, ◌<◌, ◌≤◌, ◌≡◌, ℤ, pos, List, [], ◌∷◌, ◌++◌, length, map, take, arith, refl, ap, sym, ◌∙◌, inl, inr}
use Rattle.std.specs.Prelude.{IsTrue, All}
use Rattle.std.proofs.lemmas.Bool.{cases_lt}
use Rattle.std.proofs.lemmas.List.{length-map, drop_all}
use Rattle.tetra_bits.specs.Numbered.{is_numbered, length-numbered, get_or-numbered}
use Rattle.tetra_bits.specs.Soft.{value_at}
use Rattle.tetra_diag.specs.Ring.{Puts}
use Rattle.tetra_diag.specs.lemmas.Rings.{turned_put, ring_put}
use Rattle.tetra_c.specs.KeptWords.{word_values, kept_words, KeepsLast, KeptStands}
use Rattle.tetra_c.specs.Rings.{is_ring}
use Rattle.tetra_c.specs.Values.{clamped}
use Rattle.tetra_c.specs.declared.kept_words.TetraKeptWord.{TetraKeptWord}
use Rattle.tetra_c.specs.declared.kept_words.TetraKeptWords.{TetraKeptWords}
use Rattle.tetra_c.proofs.RingTests.{ring_holds, taken_few}

pub word_size : (word : TetraKeptWord) → length (word_values word) ≡ 432
word_size word = length-numbered (λ k. clamped (value_at word.values (k - 1))) 432

-- a value that is read
pub word_value : (word : TetraKeptWord) (i : ℕ) → i < 432 → value_at (word_values word) i ≡ clamped (value_at word.values i)
word_value word i within =
    let back : i + 1 - 1 ≡ i = omega arith in
    get_or-numbered (λ k. clamped (value_at word.values (k - 1))) 432 i (pos 0) within ∙ ap (λ j. clamped (value_at word.values j)) back

-- a word whose values are written
pub word_written : (row : TetraKeptWord) (word : List ℤ) → length word ≡ 432
    → ((k : ℕ) → k < 432 → clamped (value_at row.values k) ≡ value_at word k) → word_values row ≡ word
word_written row word size each =
    sym (is_numbered (λ k. clamped (value_at row.values (k - 1))) 432 (pos 0) word size
    (λ k low.
    let back : k + 1 - 1 ≡ k = omega arith in
    rw back (sym (each k low))))

-- each word has 432 values
pub words_whole : (words : List TetraKeptWord) → All (λ w. length (word_values w) ≡ 432) words
words_whole words = λ k word low. word_size _

-- the test finds a ring where the last n words are kept
pub ring_tested : (n : ℕ) (words : List (List ℤ)) (kept : TetraKeptWords) → KeepsLast n words kept → IsTrue (is_ring n kept.count kept.oldest)
ring_tested n words kept keeps =
    let l : length (kept_words kept) ≤ kept.count =
    omega (arith, length-map (take kept.count kept.words) word_values, taken_few kept.count kept.words) in
    ring_holds n kept.count kept.oldest
    (record { low = keeps.ring.low; few = keeps.few; straight = λ h. keeps.ring.straight (omega (arith, l, h)) })

-- and where they stand for the words of a timeslot
pub stands_tested : (n : ℕ) (words : List (List ℤ)) (kept : TetraKeptWords) → KeptStands n words kept → IsTrue (is_ring n kept.count kept.oldest)
stands_tested n words kept stands = elim (cases_lt 0 n) [
  | inl some ↦ ring_tested n words kept (stands (omega arith))
  | inr none ↦ let z : n ≡ 0 = omega arith in rw z refl
]

-- the last n words, one word on
pub keeps_put : (n : ℕ) (words : List (List ℤ)) (old new : TetraKeptWords) (word : List ℤ) → new.count ≤ n → KeepsLast n words old
    → Puts n old.oldest (kept_words old) word new.oldest (kept_words new) → KeepsLast n (words ++ word ∷ []) new
keeps_put n words old new word few keeps puts =
    record {
      few = few;
      ring = ring_put n old.oldest new.oldest (kept_words old) (kept_words new) word keeps.ring puts;
      last = turned_put n old.oldest new.oldest words (kept_words old) (kept_words new) word keeps.ring puts keeps.last;
    }

-- no word yet
pub keeps_none : (n : ℕ) (kept : TetraKeptWords) → 1 ≤ n → kept.count ≡ 0 → kept.oldest ≡ 0 → KeepsLast n [] kept
keeps_none n kept some count oldest =
    let none : kept_words kept ≡ [] = ap (λ m. map word_values (take m kept.words)) count in
    record {
      few = omega (arith, count);
      ring = record { low = omega (arith, oldest, some); few = omega (arith, ap length none); straight = λ _. oldest };
      last = rw (none, oldest) (sym (drop_all (0 - n) [] (omega arith)));
    }
