use Rattle.std.proofs.Common.{◌+◌, ◌<◌, length, nat_eq, false, arith, refl, ap, ◌∙◌}
use Rattle.std.proofs.Math.ListN.{length-set}
use Rattle.tetra_bits.specs.lemmas.InPlace.{begins_set}
use Rattle.tetra_scramble.specs.Key.{key_bit}
use Rattle.tetra_scramble.proofs.Table.{written_bit}
use Rattle.tetra_scramble.proofs.register.write_16.Goals as goal

pub loop-j-preserved : goal.loop-j-preserved
loop-j-preserved c =
    let j = c.loop-j.j in
    let place = c.args.from + j in
    let inside : place < length c.loop-j.bits = omega (arith, c.requires.room, c.loop-j-test.true, c.loop-j.invariant.size) in
    record {
      size = length-set c.loop-j.bits place _ ∙ c.loop-j.invariant.size;
      key = λ e before next k h.
          begins_set (key_bit e) false place c.loop-j.bits _ _ (c.loop-j.invariant.key e before next) refl inside
          (ap (λ n. nat_eq n 1) (c.lowest_16-lowest.ensures j c.loop-j-test.true) ∙ written_bit c.args.next j c.loop-j-test.true ∙ next j c.loop-j-test.true) k (omega (arith, h));
    }
