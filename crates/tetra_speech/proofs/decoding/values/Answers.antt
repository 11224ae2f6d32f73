use Rattle.std.proofs.Common.{◌≡◌, ◌+◌, ◌-◌, pos, arith, rules, ap, to_z, of_z, w16, ◌∙◌}
use Rattle.std.proofs.lemmas.Int.{to_z-of_z}
use Rattle.tetra_bits.specs.Soft.{value_at}
use Rattle.tetra_bits.specs.lemmas.InPlace.{begins_set}
use Rattle.tetra_speech.proofs.Pieces.{is_part}
use Rattle.tetra_speech.proofs.decoding.values.Goals as goal

pub loop-i-preserved : goal.loop-i-preserved
loop-i-preserved c =
    let i = c.loop-i.i in
    let at : c.args.from + i ≡ c.args.from + (i + 1 - 1) = omega arith in
    let read : to_z w16 (of_z w16 c.get.result) ≡ c.get.result = to_z-of_z w16 c.get.result (search rules) in
    record {
      size = c.set.ensures.len ∙ c.loop-i.invariant.size;
      written = begins_set (λ k. value_at c.args.soft.now (c.args.from + (k - 1))) (pos 0) i c.loop-i.part c.set.new.self
          _ c.loop-i.invariant.written c.set.ensures.list (omega (arith, c.loop-i.invariant.size))
          (read ∙ c.get.ensures.value ∙ ap (value_at c.args.soft.now) at);
    }

pub returns-clause-values : goal.returns-clause-values
returns-clause-values c =
    is_part (pos 0) c.args.soft.now c.loop-i.part c.args.from c.args.count c.loop-i.i c.loop-i.invariant.size c.requires
    c.loop-i.invariant.written (omega arith)
