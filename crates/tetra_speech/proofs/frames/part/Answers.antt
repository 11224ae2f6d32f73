use Rattle.std.proofs.Common.{◌≡◌, ◌+◌, ◌-◌, false, arith, ap, ◌∙◌}
use Rattle.tetra_bits.specs.Order.{bit_at}
use Rattle.tetra_bits.specs.lemmas.InPlace.{begins_set}
use Rattle.tetra_speech.proofs.Pieces.{is_part}
use Rattle.tetra_speech.proofs.frames.part.Goals as goal

pub loop-i-preserved : goal.loop-i-preserved
loop-i-preserved c =
    let i = c.loop-i.i in
    let at : c.args.from + i ≡ c.args.from + (i + 1 - 1) = omega arith in
    record {
      size = c.set.ensures.len ∙ c.loop-i.invariant.size;
      written = begins_set (λ k. bit_at c.args.bits.now (c.args.from + (k - 1))) false i c.loop-i.part c.set.new.self
          c.get.result c.loop-i.invariant.written c.set.ensures.list (omega (arith, c.loop-i.invariant.size))
          (c.get.ensures ∙ ap (bit_at c.args.bits.now) at);
    }

pub returns-clause-bits : goal.returns-clause-bits
returns-clause-bits c =
    is_part false c.args.bits.now c.loop-i.part c.args.from c.args.count c.loop-i.i c.loop-i.invariant.size c.requires
    c.loop-i.invariant.written (omega arith)
