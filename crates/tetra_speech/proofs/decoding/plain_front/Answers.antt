use Rattle.std.proofs.Common.{◌≡◌, ◌<◌, false, length, take, map, ℤ, pos, arith, rules, ap, sym, to_z, of_z, w16, ◌∙◌}
use Rattle.std.proofs.lemmas.List.{get_or-map, get_or-take, length-map, length-take-le}
use Rattle.std.proofs.lemmas.Int.{to_z-of_z}
use Rattle.std.specs.Int.Signed.{lt_z}
use Rattle.tetra_bits.specs.Plain.{is_negative}
use Rattle.tetra_bits.specs.lemmas.Signs.{plain_by_signs}
use Rattle.tetra_speech.proofs.Pieces.{negative_is, front_set, is_written}
use Rattle.tetra_speech.proofs.decoding.plain_front.Goals as goal

pub loop-i-preserved : goal.loop-i-preserved
loop-i-preserved c =
    let i = c.loop-i.i in
    let count = c.args.count in
    let soft = c.args.soft.now in
    let here : i < count = omega arith in
    let long : length (take count soft) ≡ count = length-take-le count soft c.requires in
    let within : i < length (take count soft) = omega (arith, here, long) in
    let value = get_or-map is_negative (take count soft) i (pos 0) false within ∙ ap is_negative (get_or-take count soft i (pos 0) here) in
    let read : to_z w16 (of_z w16 c.get.result) ≡ c.get.result = to_z-of_z w16 c.get.result (search rules) in
    record {
      size = c.set.ensures.len ∙ c.loop-i.invariant.size;
      written = front_set false (map is_negative (take count soft)) c.loop-i.bits c.set.new.self i _ c.loop-i.invariant.written
          c.set.ensures.list (omega (arith, c.loop-i.invariant.size))
          (ap (λ (v : ℤ). lt_z v (pos 0)) read ∙ negative_is c.get.result ∙ ap is_negative c.get.ensures.value ∙ sym value);
    }

pub returns-clause-bits : goal.returns-clause-bits
returns-clause-bits c =
    let count = c.args.count in
    let soft = c.args.soft.now in
    let long : length (map is_negative (take count soft)) ≡ count =
    length-map (take count soft) is_negative ∙ length-take-le count soft c.requires
    in
    is_written false (map is_negative (take count soft)) c.loop-i.bits c.loop-i.i (c.loop-i.invariant.size ∙ sym long)
    c.loop-i.invariant.written (omega (arith, long))
    ∙ sym (plain_by_signs (take count soft))
