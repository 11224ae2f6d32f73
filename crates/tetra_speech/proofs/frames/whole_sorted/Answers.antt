use Rattle.std.proofs.Common.{◌≡◌, ℕ, ◌+◌, ◌-◌, ◌*◌, ◌<◌, ◌++◌, arith, ap, sym, subst, ◌∙◌}
use Rattle.tetra_bits.specs.Order.{bit_at}
use Rattle.tetra_speech.specs.Frames.{whole_uncoded, whole_coded}
use Rattle.tetra_speech.proofs.Sortings.{SortedOut, spot, out_none, out_more, out_all, whole_sorted_is}
use Rattle.tetra_speech.proofs.frames.whole_sorted.Goals as goal

pub loop-i-init : goal.loop-i-init
loop-i-init c =
    let bits = c.args.bits.now in
    let wanted = whole_uncoded bits ++ whole_coded bits in
    subst (λ sorted. SortedOut 274 bits wanted sorted 0) (sym c.copy-sorted.ensures) (out_none 274 bits wanted)

pub loop-i-preserved : goal.loop-i-preserved
loop-i-preserved c =
    let bits = c.args.bits.now in
    let wanted = whole_uncoded bits ++ whole_coded bits in
    let i = c.loop-i.i in
    let few : i < 137 = omega arith in
    let is = whole_sorted_is bits c.requires in
    let place : c.class_place-place.result - 1 ≡ spot i = omega (arith, c.class_place-place.ensures.value) in
    let there : 137 + (c.class_place-place.result - 1) ≡ 137 + spot i = omega (arith, place) in
    let next : 2 * i + 1 + 1 ≡ 2 * (i + 1) = omega arith in
    let one = out_more 274 bits wanted c.loop-i.sorted c.set.new.self (2 * i) c.get.result c.loop-i.invariant (omega (arith, few))
    (omega (arith, c.requires)) c.set.ensures.list (c.get.ensures ∙ ap (bit_at bits) place ∙ is.first i few) in
    let two = out_more 274 bits wanted c.set.new.self c.set-in-loop-i.new.self (2 * i + 1) c.get-in-loop-i.result one
    (omega (arith, few)) (omega (arith, c.requires)) c.set-in-loop-i.ensures.list
    (c.get-in-loop-i.ensures ∙ ap (bit_at bits) there ∙ is.second i few) in
    subst (λ (n : ℕ). SortedOut 274 bits wanted c.set-in-loop-i.new.self n) next two

pub returns-clause-bits : goal.returns-clause-bits
returns-clause-bits c =
    let bits = c.args.bits.now in
    let is = whole_sorted_is bits c.requires in
    out_all 274 (2 * c.loop-i.i) bits (whole_uncoded bits ++ whole_coded bits) c.loop-i.sorted c.loop-i.invariant (omega arith)
    (is.size ∙ sym c.requires) is.rest

pub returns-clause-size : goal.returns-clause-size
returns-clause-size c = c.loop-i.invariant.size ∙ c.requires
