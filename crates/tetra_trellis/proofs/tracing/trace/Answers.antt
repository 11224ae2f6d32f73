use Rattle.std.proofs.Common.{◌+◌, ◌*◌, ◌/◌, ◌%◌, ◌^◌, ◌∙◌, Bool, get_or, eqb, arith, refl, ap}
use Rattle.std.proofs.lemmas.List.{take_all}
use Rattle.tetra_trellis.proofs.Followed.{byte_is, followed_start, lane_fits, followed_step, followed_all}
use Rattle.tetra_trellis.proofs.tracing.trace.Goals as goal

pub loop-t-init : goal.loop-t-init
loop-t-init g c = record { long = c.resize.ensures.len; followed = followed_start c.args.marks.now c.resize.new.self }

pub overflow_shr-bit : goal.overflow_shr-bit
overflow_shr-bit g c = lane_fits c.args.marks.now c.loop-t.message c.loop-t.lane c.loop-t.t c.loop-t.invariant.followed

pub loop-t-preserved : goal.loop-t-preserved
loop-t-preserved g c =
    let marks = c.args.marks.now in
    let lane = c.loop-t.lane in
    let bit : Bool = eqb (get_or marks c.loop-t.t 0 / 2 ^ lane % 2) 0 in
    record {
      long = c.set.ensures.len ∙ c.loop-t.invariant.long;
      followed = rw c.set.ensures.list
          (followed_step marks c.loop-t.message lane c.loop-t.t c.loop-t.invariant.followed bit _ (omega (arith, c.loop-t.invariant.long)) refl
          (ap (λ n. lane % 8 / 2 + 8 * (lane % 2) + 4 * n) (c.from.ensures ∙ byte_is bit)));
    }

pub returns-clause-marked : goal.returns-clause-marked
returns-clause-marked g c =
    followed_all c.args.marks.now c.loop-t.message c.loop-t.lane c.loop-t.t c.loop-t.invariant.followed (omega (arith, c.loop-t.invariant.long))
    (take_all c.loop-t.t c.loop-t.message (omega (arith, c.loop-t.invariant.long)))
