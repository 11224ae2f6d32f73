use Rattle.std.proofs.Common.{◌≡◌, inl, inr, length, take, drop, ap, sym, ◌∙◌}
use Rattle.tetra_speech.specs.lemmas.Parts.{trellis_whole, trellis_half}
use Rattle.tetra_speech.proofs.Sortings.{whole_sorted_is, half_sorted_is}
use Rattle.tetra_speech.proofs.frames.trellis_part.Goals as goal

pub returns-then-len-eq282-clause-part : goal.returns-then-len-eq282-clause-part
returns-then-len-eq282-clause-part c =
    let bits = c.args.bits.now in
    let size : length bits ≡ 282 = sym c.len.ensures.value ∙ c.if-len-eq282.true in
    c.part.ensures.bits ∙ ap (λ x. take 180 (drop 102 x)) c.whole_sorted.ensures.bits ∙ (whole_sorted_is bits size).coded
    ∙ trellis_whole bits size

pub returns-else-len-eq282-clause-part : goal.returns-else-len-eq282-clause-part
returns-else-len-eq282-clause-part c =
    let bits = c.args.bits.now in
    let other : length bits ≡ 282 → ⊥ = λ e. c.if-len-eq282.false (c.len.ensures.value ∙ e) in
    let size : length bits ≡ 141 = elim c.requires [ inl e ↦ absurd (other e) | inr e ↦ e ] in
    c.part-else-len-eq282.ensures.bits ∙ ap (λ x. take 90 (drop 51 x)) c.half_sorted.ensures.bits
    ∙ (half_sorted_is bits size).coded ∙ trellis_half bits other
