use Rattle.std.proofs.Common.{get_or, pos, arith, FitsSigned, w16}
use Rattle.std.proofs.lemmas.Int.{to_z-of_z}
use Rattle.tetra_puncture.specs.lemmas.Outputs.{soft_fits}
use Rattle.tetra_puncture.specs.lemmas.Quarter.{PairCosts, lanes_are, turned_lanes_are}
use Rattle.tetra_puncture.proofs.quarter.quarter_costs.Goals as goal

pair_costs : (c : goal.After-turned_by_lanes)
    → PairCosts c.args.values (get_or c.pair_sums-sums.result 0 0) (get_or c.pair_sums-sums.result 1 0) (get_or c.pair_sums-sums.result 2 0) (get_or c.pair_sums-sums.result 3 0)
    (get_or c.pair_sums-sums.result 4 0) (get_or c.pair_sums-sums.result 5 0) (get_or c.pair_sums-sums.result 6 0) (get_or c.pair_sums-sums.result 7 0)
pair_costs c =
    let a : FitsSigned w16 (get_or c.args.values 0 (pos 0)) = soft_fits _ (c.requires.soft 0) in
    let b : FitsSigned w16 (get_or c.args.values 1 (pos 0)) = soft_fits _ (c.requires.soft 1) in
    let d : FitsSigned w16 (get_or c.args.values 2 (pos 0)) = soft_fits _ (c.requires.soft 2) in
    let e : FitsSigned w16 (get_or c.args.values 3 (pos 0)) = soft_fits _ (c.requires.soft 3) in
    let a0 = simp to_z-of_z at c.raised.ensures.zero in
    let a1 = simp to_z-of_z at c.raised.ensures.one in
    let b0 = simp to_z-of_z at c.raised-2.ensures.zero in
    let b1 = simp to_z-of_z at c.raised-2.ensures.one in
    let d0 = simp to_z-of_z at c.raised-3.ensures.zero in
    let d1 = simp to_z-of_z at c.raised-3.ensures.one in
    let e0 = simp to_z-of_z at c.raised-4.ensures.zero in
    let e1 = simp to_z-of_z at c.raised-4.ensures.one in
    record {
      p_is = rw c.pair_sums-sums.ensures (omega (arith, a0, b0));
      q_is = rw c.pair_sums-sums.ensures (omega (arith, a0, b1));
      r_is = rw c.pair_sums-sums.ensures (omega (arith, a1, b0));
      s_is = rw c.pair_sums-sums.ensures (omega (arith, a1, b1));
      t_is = rw c.pair_sums-sums.ensures (omega (arith, d0, e0));
      u_is = rw c.pair_sums-sums.ensures (omega (arith, d0, e1));
      v_is = rw c.pair_sums-sums.ensures (omega (arith, d1, e0));
      w_is = rw c.pair_sums-sums.ensures (omega (arith, d1, e1));
    }

pub returns-clause-cost : goal.returns-clause-cost
returns-clause-cost c = lanes_are c.args.values _ _ _ _ _ _ _ _ (pair_costs c) c.by_lanes.result c.by_lanes.ensures

pub returns-clause-turned : goal.returns-clause-turned
returns-clause-turned c = turned_lanes_are c.args.values _ _ _ _ _ _ _ _ (pair_costs c) c.turned_by_lanes.result c.turned_by_lanes.ensures
