use Rattle.std.proofs.Common.{◌+◌, ◌<◌, ℕ, ◌-◌, get_or, pos, arith, refl, ◌∙◌, FitsSigned, w16}
use Rattle.std.proofs.lemmas.Int.{to_z-of_z}
use Rattle.std.proofs.lemmas.List.{get_or-replicate}
use Rattle.tetra_puncture.specs.lemmas.Masked.{LaneSums, sum_is_cost, both_are}
use Rattle.tetra_puncture.specs.lemmas.Outputs.{soft_fits}
use Rattle.tetra_puncture.proofs.butterflies.masked_sums.Goals as goal

sums : (c : goal.After-added_where) (i : ℕ) → i < 8
    → LaneSums c.args.masks.now c.args.values c.raised.result c.raised-2.result c.raised-3.result c.raised-4.result i
    ((32768 - c.raised.result) + (32768 - c.raised-2.result) + (32768 - c.raised-3.result) + (32768 - c.raised-4.result))
    (get_or c.added_where-first.result i 0) (get_or c.added_where-second.result i 0) (get_or c.added_where-third.result i 0) (get_or c.added_where.result i 0)
sums c i h =
    let a : FitsSigned w16 (get_or c.args.values 0 (pos 0)) = soft_fits _ (c.requires.soft 0) in
    let b : FitsSigned w16 (get_or c.args.values 1 (pos 0)) = soft_fits _ (c.requires.soft 1) in
    let d : FitsSigned w16 (get_or c.args.values 2 (pos 0)) = soft_fits _ (c.requires.soft 2) in
    let e : FitsSigned w16 (get_or c.args.values 3 (pos 0)) = soft_fits _ (c.requires.soft 3) in
    record {
      a_is = record {
        zero_is = simp to_z-of_z at c.raised.ensures.zero;
        one_is = simp to_z-of_z at c.raised.ensures.one;
        near = c.raised.ensures.near;
      };
      b_is = record {
        zero_is = simp to_z-of_z at c.raised-2.ensures.zero;
        one_is = simp to_z-of_z at c.raised-2.ensures.one;
        near = c.raised-2.ensures.near;
      };
      c_is = record {
        zero_is = simp to_z-of_z at c.raised-3.ensures.zero;
        one_is = simp to_z-of_z at c.raised-3.ensures.one;
        near = c.raised-3.ensures.near;
      };
      d_is = record {
        zero_is = simp to_z-of_z at c.raised-4.ensures.zero;
        one_is = simp to_z-of_z at c.raised-4.ensures.one;
        near = c.raised-4.ensures.near;
      };
      none_is = refl;
      first_is =
          c.added_where-first.ensures.value i h
          ∙ rw (get_or-replicate {A = ℕ} 8 i _ 0 h, c.split.ensures.zero, c.split.ensures.difference) refl;
      second_is = c.added_where-second.ensures.value i h ∙ rw c.split.ensures.difference refl;
      third_is = c.added_where-third.ensures.value i h ∙ rw c.split.ensures.difference refl;
      last_is = c.added_where.ensures.value i h ∙ rw c.split.ensures.difference refl;
    }

pub returns-clause-cost : goal.returns-clause-cost
returns-clause-cost c = λ i h. sum_is_cost _ _ _ _ _ _ i _ _ _ _ _ c.requires.masks h (sums c i h)

pub returns-clause-both : goal.returns-clause-both
returns-clause-both c = λ i h. both_are _ _ _ _ _ _ i _ _ _ _ _ c.requires.masks h (sums c i h) _
    (rw (c.split.ensures.zero, c.split.ensures.one) (omega arith))
