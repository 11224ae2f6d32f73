use Rattle.std.proofs.Common.{◌≡◌, ◌+◌, ◌-◌, ◌∙◌, length, arith}
use Rattle.std.proofs.Math.ListN.{length-set}
use Rattle.tetra_puncture.specs.lemmas.Marks.{marks_start, marks_step}
use Rattle.tetra_puncture.specs.lemmas.Rows.{back_step}
use Rattle.tetra_trellis.proofs.Back.{room_behind, least_made, marks_made, sixteen_more}
use Rattle.tetra_trellis.proofs.rows.fill_rows.Goals as goal

pub loop-t-init : goal.loop-t-init
loop-t-init g c =
    let law = g.met.P.Plan in
    let p = g.P.Plan.plan in
    let few = law.sizes c.requires.sound in
    let at_tail : c.STEPS-t.result - 4 + 4 ≡ p.steps = omega (arith, law.same_steps, c.STEPS-t.ensures, few.few_steps.0) in
    record {
      back = c.fill_tail.ensures.back (c.STEPS-t.result - 4) at_tail;
      marked = marks_start p c.args.wide.now (g.T.Table.rows_of c.fill_tail.new.table) c.args.marks.now (c.STEPS-t.result - 4) (omega arith);
      sixteen = λ u low high. c.fill_tail.ensures.states (c.STEPS-t.result - 4) u at_tail low (omega (arith, high, (c.fill_tail.ensures.back (c.STEPS-t.result - 4) at_tail).long));
      long = c.told-marks;
      inside = omega arith;
    }

pub lane_row-before-requires-clause-room : goal.lane_row-before-requires-clause-room
lane_row-before-requires-clause-room g c =
    let law = g.met.P.Plan in
    let p = g.P.Plan.plan in
    let few = law.sizes c.requires.sound in
    room_behind p c.args.wide.now (g.T.Table.rows_of c.loop-t.table) c.row_at.result.now c.loop-t.t (c.loop-t.t - 1) few.few_steps.1 (omega arith)
    (omega arith) c.loop-t.invariant.back c.row_at.ensures.row

pub loop-t-preserved : goal.loop-t-preserved
loop-t-preserved g c =
    let law = g.met.P.Plan in
    let p = g.P.Plan.plan in
    let few = law.sizes c.requires.sound in
    let wide = c.args.wide.now in
    let rows = (g.T.Table.rows_of c.loop-t.table) in
    let t = c.loop-t.t in
    let next : c.loop-t.t ≡ c.loop-t.t - 1 + 1 = omega arith in
    let long : length (g.T.Table.rows_of c.loop-t.table) ≡ p.steps + 1 = c.loop-t.invariant.back.long in
    record {
      back = rw c.put_row.ensures.rows
          (back_step p wide rows c.lane_row-before.result.row t (t - 1) few.few_outs.1 c.requires.soft next (omega arith) c.loop-t.invariant.back
          (least_made p wide rows c.row_at.result.now c.lane_row-before.result.row (t - 1) c.row_at.ensures.row c.lane_row-before.ensures.row));
      marked = rw c.put_row.ensures.rows
          (marks_step p wide rows c.loop-t.marks c.lane_row-before.result.row c.lane_row-before.result.marks t (t - 1) next (omega arith) (omega (arith, c.loop-t.invariant.long)) c.loop-t.invariant.marked
          (marks_made p wide rows c.row_at.result.now c.lane_row-before.result.row c.lane_row-before.result.marks (t - 1) c.row_at.ensures.row (c.lane_row-before.ensures.marks (omega arith))));
      sixteen = rw c.put_row.ensures.rows (sixteen_more rows t (t - 1) c.lane_row-before.result.row c.put_row.ensures.sixteen next (omega arith) c.loop-t.invariant.sixteen);
      long = length-set c.loop-t.marks (t - 1) c.lane_row-before.result.marks ∙ c.loop-t.invariant.long;
      inside = omega arith;
    }
