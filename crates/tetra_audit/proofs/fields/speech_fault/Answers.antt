use Rattle.std.proofs.Common.{◌≡◌, ◌≢◌, ◌+◌, ◌-◌, ◌*◌, ◌<◌, ◌∙◌, ℕ, length, take, drop, get_or, length-drop, arith, refl, sym, ap}
use Rattle.std.proofs.lemmas.List.{take_all}
use Rattle.tetra_bits.specs.Plain.{best_plain}
use Rattle.tetra_cert.specs.Checked.{IsSound}
use Rattle.tetra_parity.specs.Marks.{mark_of}
use Rattle.tetra_puncture.specs.Best.{best_of}
use Rattle.tetra_puncture.specs.Certified.{IsCertified}
use Rattle.tetra_puncture.specs.lemmas.Shapes.{length-best_of}
use Rattle.tetra_audit.specs.Parts.{speech_part}
use Rattle.tetra_audit.proofs.Testing.{part_pad, part_bits, part_cert, part_head, bits_unlike, bits_alike}
use Rattle.tetra_audit.proofs.fields.speech_fault.Goals as goal

pub returns-in_default : goal.returns-in_default
returns-in_default g c uncoded coded reading is =
    let many : length reading.bits ≡ 141 * c.args.frames = is.bits in
    sym (part_pad reading c.args.bytes.now (3 + c.div_ceil-behind.result - 3) (141 * c.args.frames)
    (omega (arith, many)) (sym many) (speech_part c.args.frames g.P.Plan.plan uncoded coded) c.args.soft.now (c.in_default.ensures.pad.0 refl))

pub returns-then-ne : goal.returns-then-ne
returns-then-ne g c uncoded coded reading is =
    let many : length reading.bits ≡ 141 * c.args.frames = is.bits in
    let small : (q : ℕ) → get_or c.args.bytes.now q 0 < 256 = λ q. omega (arith, (c.type_inv.bytes q).fits) in
    let claimed : c.uncoded_part.result ≡ uncoded c.in-Ok.bits = c.uncoded_part.ensures.part ∙ sym (is.uncoded_is c.in-Ok.bits c.in-Ok.ensures.bits.0) in
    let heard : c.read_plain.result ≡ uncoded reading.bits = c.read_plain.ensures ∙ ap best_plain c.values.ensures.values ∙ sym is.plain in
    let unlike : uncoded c.in-Ok.bits ≢ uncoded reading.bits = λ same. bits_unlike c.uncoded_part.result c.read_plain.result c.if-ne.ensures (claimed ∙ same ∙ sym heard) in
    sym (part_bits reading c.args.bytes.now (3 + c.div_ceil-behind.result - 3) (141 * c.args.frames)
    (omega (arith, many)) (sym many) (speech_part c.args.frames g.P.Plan.plan uncoded coded) c.args.soft.now
    c.in-Ok.bits small (omega arith) c.in-Ok.ensures.bits.0 c.in-Ok.ensures.bits.1 unlike)

pub returns-in-Refused : goal.returns-in-Refused
returns-in-Refused g c uncoded coded reading is =
    let f = c.args.frames in
    let soft = c.args.soft.now in
    let steps = g.met.P.Plan.same_steps in
    let many : length reading.bits ≡ 141 * f = is.bits in
    let small : (q : ℕ) → get_or c.args.bytes.now q 0 < 256 = λ q. omega (arith, (c.type_inv.bytes q).fits) in
    let claimed : c.uncoded_part.result ≡ uncoded c.in-Ok.bits = c.uncoded_part.ensures.part ∙ sym (is.uncoded_is c.in-Ok.bits c.in-Ok.ensures.bits.0) in
    let heard : c.read_plain.result ≡ uncoded reading.bits = c.read_plain.ensures ∙ ap best_plain c.values.ensures.values ∙ sym is.plain in
    let alike : uncoded c.in-Ok.bits ≡ uncoded reading.bits = sym claimed ∙ bits_alike c.uncoded_part.result c.read_plain.result c.if-ne.ensures ∙ heard in
    let message : c.trellis_part-message.result ≡ coded c.in-Ok.bits = c.trellis_part-message.ensures.part ∙ sym (is.coded_is c.in-Ok.bits c.in-Ok.ensures.bits.0) in
    let behind : c.values-coded.result ≡ drop (51 * f) soft = c.values-coded.ensures.values ∙ take_all (165 * f) (drop (51 * f) soft) (omega (arith, length-drop (51 * f) soft, c.requires.values)) in
    sym (part_cert reading c.args.bytes.now (3 + c.div_ceil-behind.result - 3) (141 * f)
    (omega (arith, many)) (sym many) (speech_part f g.P.Plan.plan uncoded coded) soft
    c.in-Ok.bits small (omega arith) c.in-Ok.ensures.bits.0 c.in-Ok.ensures.bits.1
    alike (3 + c.div_ceil-behind.result) (omega arith) c.read_table.new.table (c.STEPS.result + 1) (omega (arith, steps, c.STEPS.ensures)) c.read_table.ensures.table
    c.in-Refused.step c.in-Refused.state c.in-Refused.rule (rw (← behind, ← message) c.in-Refused.ensures.value))

pub returns : goal.returns
unfolding IsSound
returns g c uncoded coded reading is =
    let f = c.args.frames in
    let p = g.P.Plan.plan in
    let soft = c.args.soft.now in
    let steps = g.met.P.Plan.same_steps in
    let many : length reading.bits ≡ 141 * f = is.bits in
    let small : (q : ℕ) → get_or c.args.bytes.now q 0 < 256 = λ q. omega (arith, (c.type_inv.bytes q).fits) in
    let claimed : c.uncoded_part.result ≡ uncoded c.in-Ok.bits = c.uncoded_part.ensures.part ∙ sym (is.uncoded_is c.in-Ok.bits c.in-Ok.ensures.bits.0) in
    let heard : c.read_plain.result ≡ uncoded reading.bits = c.read_plain.ensures ∙ ap best_plain c.values.ensures.values ∙ sym is.plain in
    let alike : uncoded c.in-Ok.bits ≡ uncoded reading.bits = sym claimed ∙ bits_alike c.uncoded_part.result c.read_plain.result c.if-ne.ensures ∙ heard in
    let message : c.trellis_part-message.result ≡ coded c.in-Ok.bits = c.trellis_part-message.ensures.part ∙ sym (is.coded_is c.in-Ok.bits c.in-Ok.ensures.bits.0) in
    let behind : c.values-coded.result ≡ drop (51 * f) soft = c.values-coded.ensures.values ∙ take_all (165 * f) (drop (51 * f) soft) (omega (arith, length-drop (51 * f) soft, c.requires.values)) in
    let shown : IsCertified p c.values-coded.result c.trellis_part-message.result c.read_table.new.table = c.in_default-check.ensures.sound in
    let best : c.trellis_part-message.result ≡ best_of p (drop (51 * f) soft) = shown.is_best ∙ ap (best_of p) behind in
    let class_2 : take (34 * f) (drop (56 * f) (best_of p (drop (51 * f) soft))) ≡ drop (56 * f) (best_of p (drop (51 * f) soft)) =
    take_all (34 * f) (drop (56 * f) (best_of p (drop (51 * f) soft)))
    (omega (arith, length-drop (56 * f) (best_of p (drop (51 * f) soft)), length-best_of p (drop (51 * f) soft), c.requires.steps)) in
    c.head_fault.ensures
    ∙ part_head reading c.args.bytes.now (3 + c.div_ceil-behind.result - 3) (141 * f)
    (omega (arith, many)) (sym many) (speech_part f p uncoded coded) soft
    c.in-Ok.bits small (omega arith) c.in-Ok.ensures.bits.0 c.in-Ok.ensures.bits.1
    alike (3 + c.div_ceil-behind.result) (omega arith) c.read_table.new.table (c.STEPS.result + 1) (omega (arith, steps, c.STEPS.ensures)) c.read_table.ensures.table
    c.at.result c.mark.result (rw (← behind, ← message) c.in_default-check.ensures.value)
    (c.at.ensures ∙ shown.metric_is ∙ rw (best, behind) (sym is.metric))
    (c.mark.ensures.value ∙ ap (mark_of c.args.parity) (c.part-protected.ensures.bits ∙ ap (λ m. take (34 * f) (drop (56 * f) m)) best ∙ class_2) ∙ sym is.mark)
