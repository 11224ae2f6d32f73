use Rattle.std.proofs.Common.{◌≡◌, ◌+◌, false, arith, ap, subst, ◌∙◌}
use Rattle.tetra_bits.specs.lemmas.InPlace.{Begins, begins_set}
use Rattle.tetra_puncture.specs.Plan.{sent_bit, tailed}
use Rattle.tetra_mother.specs.Mother.{mother_bit}
use Rattle.tetra_puncture.proofs.sending.write.Goals as goal

pub loop-i-preserved : goal.loop-i-preserved
unfolding sent_bit
loop-i-preserved g c =
    let p = g.P.Plan.plan in
    let next : c.args.first + c.loop-i.i + 1 ≡ c.args.first + (c.loop-i.i + 1) = omega arith in
    record {
      size = c.set.ensures.len ∙ c.loop-i.invariant.size;
      written = λ m are front.
          let more = begins_set (sent_bit p m) false (c.args.first + c.loop-i.i) c.loop-i.sent c.set.new.self c.mother_bit.result (c.loop-i.invariant.written m are front) c.set.ensures.list (omega (arith, c.loop-i.invariant.size, c.requires.last))
          (c.mother_bit.ensures m are ∙ ap (mother_bit p.taps p.outs (tailed m)) c.place-place.ensures) in
          subst (λ n. Begins (sent_bit p m) false n c.set.new.self) next more;
    }
