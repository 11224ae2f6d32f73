use Rattle.std.proofs.Common.{◌+◌, ◌-◌, ◌<◌, ◌∙◌, ℕ, get_or, arith, refl, sym, ap}
use Rattle.tetra_cert.specs.Checked.{IsSound}
use Rattle.tetra_channels.specs.Channels.{Channel}
use Rattle.tetra_channels.specs.Fields.{coded_reading}
use Rattle.tetra_parity.specs.Marks.{mark_of}
use Rattle.tetra_parity.specs.declared.kind.Parity.{Parity}
use Rattle.tetra_puncture.specs.Plan.{CodePlan}
use Rattle.tetra_puncture.specs.Best.{message_metric}
use Rattle.tetra_puncture.specs.Certified.{IsCertified}
use Rattle.tetra_session.specs.Readers.{whole_part}
use Rattle.tetra_audit.proofs.Codes.{length-coded_bits}
use Rattle.tetra_audit.proofs.Testing.{part_pad, part_cert, part_head}
use Rattle.tetra_audit.proofs.fields.coded_fault.Goals as goal

abbrev channel : Parity → ℕ → CodePlan → Channel
channel parity a plan = record { parity = parity; a = a; plan = plan }

pub returns-in_default : goal.returns-in_default
returns-in_default g c a =
    let steps = g.met.P.Plan.same_steps in
    let p = g.P.Plan.plan in
    let many = length-coded_bits (channel c.args.parity a p) c.args.soft.now in
    sym (part_pad (coded_reading (channel c.args.parity a p) c.args.soft.now) c.args.bytes.now (3 + c.div_ceil-behind.result - 3) (c.STEPS-len.result - 4)
    (omega (arith, many, steps, c.STEPS-len.ensures)) (omega (arith, many, steps, c.STEPS-len.ensures)) (whole_part p) c.args.soft.now (c.in_default.ensures.pad.0 refl))

pub returns-in-Refused : goal.returns-in-Refused
returns-in-Refused g c a =
    let steps = g.met.P.Plan.same_steps in
    let p = g.P.Plan.plan in
    let many = length-coded_bits (channel c.args.parity a p) c.args.soft.now in
    let small : (q : ℕ) → get_or c.args.bytes.now q 0 < 256 = λ q. omega (arith, (c.type_inv.bytes q).fits) in
    sym (part_cert (coded_reading (channel c.args.parity a p) c.args.soft.now) c.args.bytes.now (3 + c.div_ceil-behind.result - 3) (c.STEPS-len.result - 4)
    (omega (arith, many, steps, c.STEPS-len.ensures)) (omega (arith, many, steps, c.STEPS-len.ensures)) (whole_part p) c.args.soft.now
    c.in-Ok.message small (omega arith) c.in-Ok.ensures.bits.0 c.in-Ok.ensures.bits.1
    refl (3 + c.div_ceil-behind.result) (omega arith) c.read_table.new.table (c.STEPS.result + 1) (omega (arith, steps, c.STEPS.ensures)) c.read_table.ensures.table
    c.in-Refused.step c.in-Refused.state c.in-Refused.rule c.in-Refused.ensures.value)

pub returns : goal.returns
unfolding IsSound coded_reading
returns g c a =
    let steps = g.met.P.Plan.same_steps in
    let p = g.P.Plan.plan in
    let many = length-coded_bits (channel c.args.parity a p) c.args.soft.now in
    let small : (q : ℕ) → get_or c.args.bytes.now q 0 < 256 = λ q. omega (arith, (c.type_inv.bytes q).fits) in
    let shown : IsCertified p c.args.soft.now c.in-Ok.message c.read_table.new.table = c.in_default-check.ensures.sound in
    c.head_fault.ensures
    ∙ part_head (coded_reading (channel c.args.parity a p) c.args.soft.now) c.args.bytes.now (3 + c.div_ceil-behind.result - 3) (c.STEPS-len.result - 4)
    (omega (arith, many, steps, c.STEPS-len.ensures)) (omega (arith, many, steps, c.STEPS-len.ensures)) (whole_part p) c.args.soft.now
    c.in-Ok.message small (omega arith) c.in-Ok.ensures.bits.0 c.in-Ok.ensures.bits.1
    refl (3 + c.div_ceil-behind.result) (omega arith) c.read_table.new.table (c.STEPS.result + 1) (omega (arith, steps, c.STEPS.ensures)) c.read_table.ensures.table
    c.at.result c.mark.result c.in_default-check.ensures.value
    (c.at.ensures ∙ (shown.metric_is ∙ ap (message_metric p c.args.soft.now) shown.is_best))
    (c.mark.ensures.value ∙ ap (mark_of c.args.parity) shown.is_best)
