use Rattle.std.proofs.Common.{◌≡◌, ◌≤◌, ◌+◌, ◌-◌, ◌∙◌, ℕ, List, length, replicate, arith, sym}
use Rattle.std.proofs.lemmas.List.{get_or-replicate}
use Rattle.tetra_puncture.specs.lemmas.Rows.{back_step}
use Rattle.tetra_trellis.proofs.Back.{first_row, room_behind, least_made, sixteen_first, sixteen_more}
use Rattle.tetra_trellis.proofs.rows.fill_tail.Goals as goal

pub loop-t-init : goal.loop-t-init
loop-t-init g c =
    let law = g.met.P.Plan in
    let p = g.P.Plan.plan in
    let steps : c.STEPS-steps.result ≡ p.steps = c.STEPS-steps.ensures ∙ sym law.same_steps in
    let begun : List (List ℕ) = g.T.Table.rows_of c.begin.new.self in
    let written : List (List ℕ) = g.T.Table.rows_of c.put_row.new.self in
    record {
      back = first_row p c.args.wide.now begun written (replicate 16 0) c.STEPS-steps.result steps c.begin.ensures c.put_row.ensures.rows
          (λ s h. get_or-replicate 16 s 0 0 h);
      sixteen = sixteen_first begun written c.STEPS-steps.result (replicate 16 0) c.put_row.ensures.sixteen c.begin.ensures c.put_row.ensures.rows;
    }

pub lane_row-last-requires-clause-room : goal.lane_row-last-requires-clause-room
lane_row-last-requires-clause-room g c =
    let law = g.met.P.Plan in
    let p = g.P.Plan.plan in
    let few = law.sizes c.requires.sound in
    let within : c.loop-t.t ≤ p.steps = omega (arith, law.same_steps, c.STEPS-steps.ensures, c.loop-t.auto.t) in
    room_behind p c.args.wide.now (g.T.Table.rows_of c.loop-t.table) c.row_at.result.now c.loop-t.t (c.loop-t.t - 1) few.few_steps.1 within
    (omega arith) c.loop-t.invariant.back c.row_at.ensures.row

pub loop-t-preserved : goal.loop-t-preserved
loop-t-preserved g c =
    let law = g.met.P.Plan in
    let p = g.P.Plan.plan in
    let few = law.sizes c.requires.sound in
    let within : c.loop-t.t ≤ p.steps = omega (arith, law.same_steps, c.STEPS-steps.ensures, c.loop-t.auto.t) in
    let table : List (List ℕ) = g.T.Table.rows_of c.loop-t.table in
    let long : length table ≡ p.steps + 1 = c.loop-t.invariant.back.long in
    rw c.put_row-in-loop-t.ensures.rows (record {
      back = back_step p c.args.wide.now table c.lane_row-last.result.row c.loop-t.t (c.loop-t.t - 1) few.few_outs.1
          c.requires.soft (omega arith) within c.loop-t.invariant.back
          (least_made p c.args.wide.now table c.row_at.result.now c.lane_row-last.result.row (c.loop-t.t - 1) c.row_at.ensures.row c.lane_row-last.ensures.row);
      sixteen = sixteen_more table c.loop-t.t (c.loop-t.t - 1) c.lane_row-last.result.row c.put_row-in-loop-t.ensures.sixteen (omega arith) (omega (arith, long)) c.loop-t.invariant.sixteen;
    })
