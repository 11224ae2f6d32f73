use Rattle.std.proofs.Common.{◌≡◌, ℕ, ◌+◌, ◌%◌, ◌<◌, length, arith, sym, ap, ◌∙◌, add-zero}
use Rattle.std.specs.Prelude.{neg_ℤ}
use Rattle.std.proofs.lemmas.List.{length-set}
use Rattle.tetra_bits.specs.Soft.{value_at}
use Rattle.tetra_gen.specs.Words.{generator, word}
use Rattle.tetra_gen.specs.Damaged.{position}
use Rattle.tetra_gen.specs.lemmas.Turning.{turned_by_none, turned_by_more}
use Rattle.tetra_gen.proofs.damage.turn_signs.Goals as goal

pub loop-init : goal.loop-init
loop-init c = record {
  size = omega arith;
  soft = c.requires.soft;
  values = λ seed stream i from. turned_by_none (word seed stream) i c.args.soft.now;
  words = λ seed stream i from. from ∙ ap (generator seed stream) (sym (add-zero i));
}

pub loop-preserved : goal.loop-preserved
loop-preserved c =
    let d : ℕ = c.loop.counter in
    let place : ℕ = c.draw-word.result % 510 in
    let size : length c.args.soft.now ≡ 510 = omega arith in
    record {
      size = ap length c.turn_sign.ensures.value ∙ length-set c.loop.soft place (neg_ℤ (value_at c.loop.soft place)) ∙ c.loop.invariant.size;
      soft = c.turn_sign.ensures.soft;
      values = λ seed stream i from.
          let drawn : c.draw-word.result ≡ word seed stream (i + d) = c.draw-word.ensures.word seed stream (i + d) (c.loop.invariant.words seed stream i from) in
          let named : place + 1 ≡ position (word seed stream (i + d)) = omega (arith, drawn) in
          let within : place < length c.args.soft.now = omega (arith, size) in
          turned_by_more (word seed stream) i d place c.args.soft.now c.loop.soft c.turn_sign.new.soft (c.loop.invariant.values seed stream i from) named within c.turn_sign.ensures.value;
      words = λ seed stream i from.
          let more : i + d + 1 ≡ i + (d + 1) = omega arith in
          c.draw-word.ensures.words seed stream (i + d) (c.loop.invariant.words seed stream i from) ∙ ap (generator seed stream) more;
    }
