use Rattle.std.proofs.Common.{◌≡◌, ◌-◌, ◌<◌, ◌++◌, arith, ap, sym, subst, ◌∙◌}
use Rattle.tetra_bits.specs.Order.{bit_at}
use Rattle.tetra_speech.specs.Frames.{half_uncoded, half_coded}
use Rattle.tetra_speech.proofs.Sortings.{SortedOut, spot, out_none, out_more, out_all, half_sorted_is}
use Rattle.tetra_speech.proofs.frames.half_sorted.Goals as goal

pub loop-i-init : goal.loop-i-init
loop-i-init c =
    let bits = c.args.bits.now in
    let wanted = half_uncoded bits ++ half_coded bits in
    subst (λ sorted. SortedOut 137 bits wanted sorted 0) (sym c.copy-sorted.ensures) (out_none 137 bits wanted)

pub loop-i-preserved : goal.loop-i-preserved
loop-i-preserved c =
    let bits = c.args.bits.now in
    let wanted = half_uncoded bits ++ half_coded bits in
    let i = c.loop-i.i in
    let few : i < 137 = omega arith in
    let is = half_sorted_is bits c.requires in
    let place : c.class_place.result - 1 ≡ spot i = omega (arith, c.class_place.ensures.value) in
    out_more 137 bits wanted c.loop-i.sorted c.set.new.self i c.get.result c.loop-i.invariant few (omega (arith, c.requires))
    c.set.ensures.list (c.get.ensures ∙ ap (bit_at bits) place ∙ is.first i few)

pub returns-clause-bits : goal.returns-clause-bits
returns-clause-bits c =
    let bits = c.args.bits.now in
    let is = half_sorted_is bits c.requires in
    out_all 137 c.loop-i.i bits (half_uncoded bits ++ half_coded bits) c.loop-i.sorted c.loop-i.invariant (omega arith)
    (is.size ∙ sym c.requires) is.rest

pub returns-clause-size : goal.returns-clause-size
returns-clause-size c = c.loop-i.invariant.size ∙ c.requires
