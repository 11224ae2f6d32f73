use Rattle.std.proofs.Common.{FitsSigned, w16, get_or, pos, arith}
use Rattle.std.proofs.lemmas.Int.{to_z-of_z}
use Rattle.tetra_puncture.specs.lemmas.Outputs.{pairs_are_costs, soft_fits}
use Rattle.tetra_puncture.proofs.branches.label_costs.Goals as goal

pub returns-clause-value : goal.returns-clause-value
returns-clause-value c =
    let a : FitsSigned w16 (get_or c.args.values 0 (pos 0)) = soft_fits _ (c.requires 0) in
    let b : FitsSigned w16 (get_or c.args.values 1 (pos 0)) = soft_fits _ (c.requires 1) in
    let d : FitsSigned w16 (get_or c.args.values 2 (pos 0)) = soft_fits _ (c.requires 2) in
    let e : FitsSigned w16 (get_or c.args.values 3 (pos 0)) = soft_fits _ (c.requires 3) in
    let first = simp to_z-of_z at c.pair_costs-first.ensures.value in
    let second = simp to_z-of_z at c.pair_costs-second.ensures.value in
    pairs_are_costs c.args.values c.pair_costs-first.result c.pair_costs-second.result c.loop-label.costs first second
    (λ k h. c.loop-label.invariant.made k (omega arith))
