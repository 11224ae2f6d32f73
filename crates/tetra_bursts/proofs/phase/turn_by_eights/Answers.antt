use Rattle.std.proofs.Common.{◌≡◌, ◌+◌, ◌-◌, ◌*◌, arith, refl, ap, sym, ◌∙◌}
use Rattle.tetra_bits.specs.Sums.{sum_below}
use Rattle.tetra_bursts.proofs.Eights.{steps, range_turn, eights_next}
use Rattle.tetra_bursts.proofs.phase.turn_by_eights.Goals as goal

pub loop-j-init : goal.loop-j-init
unfolding sum_below
loop-j-init c = record { so_far = refl; small = omega arith; even = refl }

pub loop-j-preserved : goal.loop-j-preserved
loop-j-preserved c =
    let eight = c.eight_steps-sum.ensures in
    let small = eight.small in
    let even = eight.even in
    record {
      so_far = eights_next c.args.slot.now c.args.first c.loop-j.j c.loop-j.sum c.sixteen-bits.result c.eight_steps-sum.result (omega arith) c.requires.low (omega arith) c.loop-j.invariant.so_far c.sixteen-bits.ensures eight.value;
      small = omega arith;
      even = omega arith;
    }

pub returns-clause-value : goal.returns-clause-value
returns-clause-value c =
    let last = c.args.first + 8 * c.args.eights - 1 in
    let size : last + 1 - c.args.first ≡ 8 * c.loop-j.j = omega arith in
    c.loop-j.invariant.so_far
    ∙ sym (range_turn c.args.first last c.args.slot.now (omega arith) c.requires.low (omega arith) ∙ ap (λ n. sum_below n (steps c.args.slot.now c.args.first)) size)
