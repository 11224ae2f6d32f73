use Rattle.std.proofs.Common.{◌≡◌, ℕ, ◌+◌, ◌/◌, ◌%◌, ◌<◌, length, arith, ap, ◌∙◌, sym, add-zero}
use Rattle.tetra_gen.specs.Words.{generator, word, words_for}
use Rattle.tetra_gen.specs.lemmas.Drawing.{field_none, field_more}
use Rattle.tetra_gen.proofs.words.draw_field.Goals as goal
use Rattle.tetra_gen.proofs.words.draw_field.Goals.{then-k-eq0, else-k-eq0}

pub loop-k-init : goal.loop-k-init
loop-k-init c = record {
  size = ap length c.new-drawn.ensures;
  field = λ seed stream i from. c.new-drawn.ensures ∙ field_none (word seed stream) i;
  words = λ seed stream i from. from ∙ ap (generator seed stream) (sym (add-zero i));
  current = λ seed stream i from above. absurd (omega (arith, above));
}

-- the word of bit k is drawn at k or was drawn before
pub loop-k-preserved : goal.loop-k-preserved
loop-k-preserved c =
    let k : ℕ = c.loop-k.k in
    let current : (seed stream i : ℕ) → c.args.words.now ≡ generator seed stream i → c.if-k-eq0.current ≡ word seed stream (i + k / 32) = λ seed stream i from.
    elim c.if-k-eq0.branch [
      | then-k-eq0 w ↦
          let first : words_for k ≡ k / 32 = omega (arith, w.if-k-eq0.true) in
          w.current-is ∙ w.draw-current.ensures.word seed stream (i + words_for k) (c.loop-k.invariant.words seed stream i from)
          ∙ ap (λ (n : ℕ). word seed stream (i + n)) first
      | else-k-eq0 w ↦
          let later : 0 < k % 32 = omega (arith, w.if-k-eq0.false) in
          w.current-is ∙ c.loop-k.invariant.current seed stream i from later
    ] in
    let words : (seed stream i : ℕ) → c.args.words.now ≡ generator seed stream i → c.if-k-eq0.words ≡ generator seed stream (i + words_for (k + 1)) = λ seed stream i from.
    elim c.if-k-eq0.branch [
      | then-k-eq0 w ↦
          let more : i + words_for k + 1 ≡ i + words_for (k + 1) = omega (arith, w.if-k-eq0.true) in
          w.words-is ∙ w.draw-current.ensures.words seed stream (i + words_for k) (c.loop-k.invariant.words seed stream i from) ∙ ap (generator seed stream) more
      | else-k-eq0 w ↦
          let same : i + words_for k ≡ i + words_for (k + 1) = omega (arith, w.if-k-eq0.false) in
          w.words-is ∙ c.loop-k.invariant.words seed stream i from ∙ ap (generator seed stream) same
    ] in
    record {
      size = omega (arith, c.push.ensures.len, c.loop-k.invariant.size);
      field = λ seed stream i from.
          field_more (word seed stream) i k c.if-k-eq0.current c.loop-k.drawn c.push.new.self c.bit_of.result (current seed stream i from) c.bit_of.ensures (c.loop-k.invariant.field seed stream i from) c.push.ensures.list;
      words = words;
      current = λ seed stream i from above.
          let same : k / 32 ≡ (k + 1) / 32 = omega (arith, above) in
          current seed stream i from ∙ ap (λ (n : ℕ). word seed stream (i + n)) same;
    }
