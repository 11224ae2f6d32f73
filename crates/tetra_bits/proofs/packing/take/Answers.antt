use Rattle.std.proofs.Common.{◌≡◌, ◌+◌, ◌-◌, ℕ, false, arith, ap, subst, ◌∙◌}
use Rattle.tetra_bits.specs.lemmas.InPlace.{Begins, begins_set}
use Rattle.tetra_bits.specs.Packed.{unpacked_bit, bit_in}
use Rattle.tetra_bits.proofs.packing.take.Goals as goal

pub loop-i-preserved : goal.loop-i-preserved
unfolding unpacked_bit
loop-i-preserved c =
    let back : c.args.first + c.loop-i.i ≡ c.args.first + c.loop-i.i + 1 - 1 = omega arith in
    let next : c.args.first + c.loop-i.i + 1 ≡ c.args.first + (c.loop-i.i + 1) = omega arith in
    let more = begins_set (unpacked_bit c.args.bytes.now) false (c.args.first + c.loop-i.i) c.loop-i.bits c.set.new.self c.bit_of.result c.loop-i.invariant.written c.set.ensures.list (omega (arith, c.loop-i.invariant.size, c.requires.room))
    (c.bit_of.ensures ∙ ap (bit_in c.args.bytes.now) back) in
    record {
      size = c.set.ensures.len ∙ c.loop-i.invariant.size;
      written = subst (λ (n : ℕ). Begins (unpacked_bit c.args.bytes.now) false n c.set.new.self) next more;
    }
