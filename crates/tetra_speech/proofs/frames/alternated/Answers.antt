use Rattle.std.proofs.Common.{◌≡◌, ℕ, ◌+◌, ◌*◌, ◌<◌, length, false, arith, sym, subst, ◌∙◌}
use Rattle.tetra_speech.specs.Frames.{alternated}
use Rattle.tetra_speech.specs.lemmas.Strands.{length-alternated, even_bit, odd_bit}
use Rattle.tetra_speech.proofs.Pieces.{IsFront, front_set, is_written}
use Rattle.tetra_speech.proofs.frames.alternated.Goals as goal

pub loop-i-preserved : goal.loop-i-preserved
loop-i-preserved c =
    let a = c.args.a.now in
    let b = c.args.b.now in
    let i = c.loop-i.i in
    let next : 2 * i + 1 + 1 ≡ 2 * (i + 1) = omega arith in
    let here : i < length a = omega arith in
    let one = front_set false (alternated a b) c.loop-i.both c.set.new.self (2 * i) c.get.result c.loop-i.invariant.written
    c.set.ensures.list (omega (arith, c.loop-i.invariant.size, here)) (c.get.ensures ∙ sym (even_bit a b i here)) in
    let two = front_set false (alternated a b) c.set.new.self c.set-in-loop-i.new.self (2 * i + 1) c.get-in-loop-i.result one
    c.set-in-loop-i.ensures.list (omega (arith, c.set.ensures.len, c.loop-i.invariant.size, here)) (c.get-in-loop-i.ensures ∙ sym (odd_bit a b i here)) in
    record {
      size = c.set-in-loop-i.ensures.len ∙ c.set.ensures.len ∙ c.loop-i.invariant.size;
      written = subst (λ (n : ℕ). IsFront false (alternated a b) n c.set-in-loop-i.new.self) next two;
    }

pub returns-clause-bits : goal.returns-clause-bits
returns-clause-bits c =
    let a = c.args.a.now in
    let b = c.args.b.now in
    let long : length (alternated a b) ≡ 2 * length a = length-alternated a b in
    is_written false (alternated a b) c.loop-i.both (2 * c.loop-i.i) (c.loop-i.invariant.size ∙ sym long)
    c.loop-i.invariant.written (omega (arith, long))
