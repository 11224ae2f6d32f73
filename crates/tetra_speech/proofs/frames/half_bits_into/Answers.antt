use Rattle.std.proofs.Common.{◌≡◌, ◌-◌, ◌<◌, length, arith, sym, subst}
use Rattle.tetra_speech.proofs.Sortings.{HalfBack, spot, half_none, half_more, is_half_bits}
use Rattle.tetra_speech.proofs.frames.half_bits_into.Goals as goal

pub loop-i-init : goal.loop-i-init
loop-i-init c =
    let size : length c.joined-sorted.result ≡ 141 = omega (arith, c.joined-sorted.ensures.size, c.requires.uncoded, c.requires.coded) in
    subst (λ bits. HalfBack c.joined-sorted.result bits 0) (sym c.copy.ensures) (half_none c.joined-sorted.result size)

pub loop-i-preserved : goal.loop-i-preserved
loop-i-preserved c =
    let i = c.loop-i.i in
    let few : i < 137 = omega arith in
    let place : c.class_place.result - 1 ≡ spot i = omega (arith, c.class_place.ensures.value) in
    half_more c.joined-sorted.result c.loop-i.bits c.set.new.self i (c.class_place.result - 1) c.get.result c.loop-i.invariant few
    place c.set.ensures.list c.get.ensures

pub returns-clause-bits : goal.returns-clause-bits
returns-clause-bits c =
    is_half_bits c.args.uncoded.now c.args.coded.now c.joined-sorted.result c.loop-i.bits c.loop-i.i c.requires.uncoded
    c.requires.coded c.joined-sorted.ensures.bits c.loop-i.invariant (omega arith)
