use Rattle.std.proofs.Common.{rules, arith, ◌<◌, ◌≤◌, ◌+◌, ◌∷◌, [], ℕ, ℤ, List, length, take, set, All, FitsSigned, w16, sym, subst, zero, suc}
use Rattle.std.proofs.lemmas.Int.{to_z-of_z}
use Rattle.std.proofs.lemmas.List.{take_more_set, take_all}
use Rattle.std.proofs.lemmas.List.Elements.{All-append}
use Rattle.std.proofs.lemmas.Grind.{common_steps}
use Rattle.tetra_bits.specs.Soft.{IsSoft}
use Rattle.tetra_examples.proofs.send_and_receive.send_and_receive.Goals as goal

one_soft : (v : ℤ) → IsSoft v → All IsSoft (v ∷ [])
one_soft v soft zero d below = soft
one_soft v soft (suc k) d below = absurd (omega arith)

-- one value more
soft_more : (soft : List ℤ) (i : ℕ) (v : ℤ) → i < length soft → IsSoft v → All IsSoft (take i soft) → All IsSoft (take (i + 1) (set soft i v))
soft_more soft i v within is each = subst (All IsSoft) (sym (take_more_set soft i v within)) (All-append IsSoft (take i soft) (v ∷ []) each (one_soft v is))

pub loop-k-preserved : goal.loop-k-preserved
loop-k-preserved c =
    let fits : FitsSigned w16 c.soft_of.result = search rules in
    let same = to_z-of_z w16 c.soft_of.result fits in
    record {
      size = grind (arith, common_steps);
      each = soft_more c.loop-k.soft c.loop-k.k _ (search rules) (subst IsSoft (sym same) c.soft_of.ensures.soft) c.loop-k.invariant.each;
    }

pub slot-reading-requires-clause-soft : goal.slot-reading-requires-clause-soft
slot-reading-requires-clause-soft c =
    let most : length c.loop-k.soft ≤ c.loop-k.k = search rules in
    subst (All IsSoft) (take_all c.loop-k.k c.loop-k.soft most) c.loop-k.invariant.each
