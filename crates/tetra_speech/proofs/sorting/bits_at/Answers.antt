use Rattle.std.proofs.Common.{◌≡◌, ◌-◌, false, length, arith, sym, ◌∙◌}
use Rattle.std.proofs.lemmas.List.{get_or-map}
use Rattle.tetra_bits.specs.Order.{bit_at}
use Rattle.tetra_speech.specs.Classes.{bits_at}
use Rattle.tetra_speech.specs.lemmas.Sorted.{length-bits_at}
use Rattle.tetra_speech.proofs.Pieces.{front_set, is_written}
use Rattle.tetra_speech.proofs.sorting.bits_at.Goals as goal

pub loop-i-preserved : goal.loop-i-preserved
unfolding bits_at
loop-i-preserved c =
    let i = c.loop-i.i in
    let places = c.args.places.now in
    let frame = c.args.frame.now in
    record {
      size = c.set.ensures.len ∙ c.loop-i.invariant.size;
      written = front_set false (bits_at places frame) c.loop-i.bits c.set.new.self i c.get.result c.loop-i.invariant.written
          c.set.ensures.list (omega (arith, c.loop-i.invariant.size))
          (c.get.ensures ∙ sym (get_or-map (λ place. bit_at frame (place - 1)) places i 0 false (omega arith)));
    }

pub returns-clause-bits : goal.returns-clause-bits
returns-clause-bits c =
    let places = c.args.places.now in
    let frame = c.args.frame.now in
    let long : length (bits_at places frame) ≡ length places = length-bits_at places frame in
    is_written false (bits_at places frame) c.loop-i.bits c.loop-i.i (c.loop-i.invariant.size ∙ sym long)
    c.loop-i.invariant.written (omega (arith, long))
