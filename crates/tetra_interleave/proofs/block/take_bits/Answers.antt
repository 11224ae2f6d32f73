use Rattle.std.proofs.Common.{false, arith, refl, ◌∙◌}
use Rattle.tetra_interleave.proofs.BySteps.{step_more}
use Rattle.tetra_interleave.proofs.block.take_bits.Goals as goal

pub loop-i-preserved : goal.loop-i-preserved
loop-i-preserved g c =
    record {
      size = c.set.ensures.len ∙ c.loop-i.invariant.size;
      taken = λ x from twice at front.
          step_more false g.row.K from c.args.by c.args.at c.args.first c.loop-i.i x c.args.twice.now c.loop-i.all c.set.new.self _ twice c.requires.place c.requires.step at
          (c.loop-i.invariant.taken x from twice at front) c.set.ensures.list (omega (arith, c.loop-i.invariant.size, c.requires.last)) refl;
    }
