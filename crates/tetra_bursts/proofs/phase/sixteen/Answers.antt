use Rattle.std.proofs.Common.{rules, ◌∷◌, get_or, pos, w8, arith}
use Rattle.std.specs.Simd.Lanes.{Each1}
use mir.Val.{SFits}
use Rattle.tetra_bursts.proofs.Sixteen.{sixteen_signs, lanes_mask_small, values}
use Rattle.tetra_bursts.proofs.phase.sixteen.Goals as goal

pub overflow_cast-result : goal.overflow_cast-result
overflow_cast-result c =
    let slot = c.args.slot.now in
    let from = c.args.from in
    let each : Each1 (SFits w8) (get_or slot from (pos 0) ∷ values slot from 1 15) = (search rules, (search rules, (search rules, (search rules, (search rules, (search rules, (search rules, (search rules, (search rules, (search rules, (search rules, (search rules, (search rules, (search rules, (search rules, (search rules, tt)))))))))))))))) in
    record { fits = lanes_mask_small slot from each }

pub returns : goal.returns
returns c =
    let slot = c.args.slot.now in
    let from = c.args.from in
    let each : Each1 (SFits w8) (get_or slot from (pos 0) ∷ values slot from 1 15) = (search rules, (search rules, (search rules, (search rules, (search rules, (search rules, (search rules, (search rules, (search rules, (search rules, (search rules, (search rules, (search rules, (search rules, (search rules, (search rules, tt)))))))))))))))) in
    sixteen_signs slot from (omega arith) c.requires each
