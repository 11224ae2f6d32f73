use Rattle.std.proofs.Common.{arith}
use Rattle.tetra_puncture.specs.lemmas.Stepping.{least_is_exact, zero_is_exact, marks_are_exact}
use Rattle.tetra_trellis.proofs.lanes.lane_row.Goals as goal

pub returns-then-t-STEPS : goal.returns-then-t-STEPS
returns-then-t-STEPS g c =
    let law = g.met.P.Plan in
    let p = g.P.Plan.plan in
    let few = (law.sizes c.requires.sound).few_outs.1 in
    record {
      row = least_is_exact p c.args.wide.now c.args.t c.args.after.now few c.requires.soft c.requires.room c.marked_row.result.row c.marked_row.ensures.row (omega (arith, law.same_steps, c.STEPS.ensures));
      marks = λ _. marks_are_exact p c.args.wide.now c.args.t c.args.after.now few c.requires.soft c.requires.room c.marked_row.result.row c.marked_row.result.marks c.marked_row.ensures.marks;
    }

pub returns-else-t-STEPS : goal.returns-else-t-STEPS
returns-else-t-STEPS g c =
    let law = g.met.P.Plan in
    let p = g.P.Plan.plan in
    let few = (law.sizes c.requires.sound).few_outs.1 in
    record {
      row = zero_is_exact p c.args.wide.now c.args.t c.args.after.now few c.requires.soft c.requires.room c.zero_row.result c.zero_row.ensures (omega (arith, law.same_steps, c.STEPS.ensures));
      marks = λ inside. absurd (omega (arith, law.same_steps, c.STEPS.ensures));
    }
