use Rattle.std.proofs.Common.{◌≡◌, ℕ, ◌+◌, length}
use Rattle.tetra_bits.specs.Soft.{AllSoft}
use Rattle.tetra_gen.specs.Words.{generator, word}
use Rattle.tetra_gen.specs.Damaged.{turned_by}
use Rattle.tetra_gen.proofs.damage.turn_signs.Given as goal

abbrev pub invariant-loop : goal.invariant-loop
invariant-loop l = record {
  size : length l.soft ≡ 510;
  soft : AllSoft l.soft;
  values : (seed stream i : ℕ) → l.fn.words ≡ generator seed stream i → l.soft ≡ turned_by (word seed stream) i l.counter l.fn.soft;
  words : (seed stream i : ℕ) → l.fn.words ≡ generator seed stream i → l.words ≡ generator seed stream (i + l.counter);
}
