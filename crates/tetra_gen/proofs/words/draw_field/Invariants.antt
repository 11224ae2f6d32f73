use Rattle.std.proofs.Common.{◌≡◌, ℕ, ◌+◌, ◌/◌, ◌%◌, ◌<◌, length}
use Rattle.tetra_gen.specs.Words.{generator, word, words_for, field}
use Rattle.tetra_gen.proofs.words.draw_field.Given as goal

abbrev pub invariant-loop-k : goal.invariant-loop-k
invariant-loop-k l = record {
  size : length l.drawn ≡ l.k;
  field : (seed stream i : ℕ) → l.fn.words ≡ generator seed stream i → l.drawn ≡ field (word seed stream) i l.k;
  words : (seed stream i : ℕ) → l.fn.words ≡ generator seed stream i → l.words ≡ generator seed stream (i + words_for l.k);
  current : (seed stream i : ℕ) → l.fn.words ≡ generator seed stream i → 0 < l.k % 32 → l.current ≡ word seed stream (i + l.k / 32);
}
