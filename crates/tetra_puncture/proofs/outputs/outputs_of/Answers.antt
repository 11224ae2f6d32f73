use Rattle.std.proofs.Common.{arith, refl, rules}
use Rattle.tetra_puncture.proofs.Padding.{made_none, made_more}
use Rattle.tetra_puncture.proofs.outputs.outputs_of.Goals as goal

pub loop-i-init : goal.loop-i-init
loop-i-init g c = record { size = refl; made = made_none g.M.Mother.taps c.args.message.now _ }

pub loop-i-preserved : goal.loop-i-preserved
loop-i-preserved g c =
    record {
      size = search rules;
      made = made_more g.M.Mother.taps c.args.message.now c.loop-i.outputs _ c.output_of.result c.loop-i.i c.loop-i.invariant.made (omega (arith, c.loop-i.invariant.size, g.met.M.Mother.few.1)) refl
          (c.output_of.ensures c.args.message.now c.padded-bits.ensures);
    }
