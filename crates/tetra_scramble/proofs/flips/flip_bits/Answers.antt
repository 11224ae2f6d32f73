use Rattle.std.proofs.Common.{false, arith, length}
use Rattle.tetra_bits.specs.lemmas.InPlace.{begins_set, begins_all}
use Rattle.tetra_scramble.specs.Flips.{flipped_bit, flipped}
use Rattle.tetra_scramble.specs.lemmas.Entries.{bit_flipped}
use Rattle.tetra_scramble.proofs.flips.flip_bits.Goals as goal

pub loop-i-preserved : goal.loop-i-preserved
loop-i-preserved c =
    record {
      size = omega (arith, c.loop-i.invariant.size, c.set.ensures.len);
      written = begins_set (flipped_bit c.args.x.now c.args.key.now c.args.from) false c.loop-i.i c.loop-i.bits _ _ c.loop-i.invariant.written c.set.ensures.list (omega (arith, c.loop-i.invariant.size))
          (bit_flipped c.args.x.now c.args.key.now c.args.from c.loop-i.i c.get.result c.get-in-loop-i.result c.requires.first c.get.ensures c.get-in-loop-i.ensures.value);
    }

pub returns : goal.returns
unfolding flipped
returns c = begins_all (flipped_bit c.args.x.now c.args.key.now c.args.from) false (length c.args.x.now) c.loop-i.i c.loop-i.bits c.loop-i.invariant.size c.loop-i.invariant.written (omega arith)
