use Rattle.std.proofs.Common.{false, arith, length, get_or, ap, ◌∙◌}
use Rattle.std.proofs.lemmas.List.{get_or-set_other}
use Rattle.tetra_bits.specs.lemmas.InPlace.{begins_set, begins_all}
use Rattle.tetra_scramble.specs.Flips.{flipped_bit, flipped}
use Rattle.tetra_scramble.specs.lemmas.Entries.{bit_flipped}
use Rattle.tetra_scramble.proofs.flips.flip_bits_in_place.Goals as goal

pub loop-i-preserved : goal.loop-i-preserved
loop-i-preserved c =
    let i = c.loop-i.i in
    let fresh = c.get-bit.ensures ∙ c.loop-i.invariant.rest i (omega arith) in
    record {
      size = c.set.ensures.len ∙ c.loop-i.invariant.size;
      written = begins_set (flipped_bit c.args.bits.now c.args.key.now c.args.from) false i c.loop-i.bits _ _ c.loop-i.invariant.written c.set.ensures.list (omega (arith, c.loop-i.invariant.size))
          (bit_flipped c.args.bits.now c.args.key.now c.args.from i c.get-bit.result c.get.result c.requires.first fresh c.get.ensures.value);
      rest = λ k h. ap (λ xs. get_or xs k false) c.set.ensures.list ∙ get_or-set_other c.loop-i.bits i k _ false (omega (arith, h)) ∙ c.loop-i.invariant.rest k (omega (arith, h));
    }

pub returns : goal.returns
unfolding flipped
returns c = begins_all (flipped_bit c.args.bits.now c.args.key.now c.args.from) false (length c.args.bits.now) c.loop-i.i c.loop-i.bits c.loop-i.invariant.size c.loop-i.invariant.written (omega arith)
