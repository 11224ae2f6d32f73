use Rattle.std.proofs.Common.{rules, arith, ◌<◌, ◌≤◌, ◌+◌, ◌∷◌, [], ℕ, ℤ, List, length, take, set, All, FitsSigned, w16, sym, ◌∙◌, subst, zero, suc}
use Rattle.std.proofs.lemmas.Int.{to_z-of_z}
use Rattle.std.proofs.lemmas.List.{take_more_set, take_all}
use Rattle.std.proofs.lemmas.List.Elements.{All-append}
use Rattle.std.proofs.lemmas.Grind.{common_steps}
use Rattle.tetra_bits.specs.Soft.{IsSoft}
use Rattle.tetra_engine.proofs.slots.read_values.Goals as goal

one_soft : (v : ℤ) → IsSoft v → All IsSoft (v ∷ [])
one_soft v soft zero d below = soft
one_soft v soft (suc k) d below = absurd (omega arith)

-- one value more
soft_more : (soft : List ℤ) (i : ℕ) (v : ℤ) → i < length soft → IsSoft v → All IsSoft (take i soft) → All IsSoft (take (i + 1) (set soft i v))
soft_more soft i v within is each = subst (All IsSoft) (sym (take_more_set soft i v within)) (All-append IsSoft (take i soft) (v ∷ []) each (one_soft v is))

pub loop-i-preserved : goal.loop-i-preserved
loop-i-preserved c =
    let fits : FitsSigned w16 c.soft_of.result = search rules in
    let same = to_z-of_z w16 c.soft_of.result fits in
    let value = same ∙ c.soft_of.ensures.value in
    record {
      size = grind (arith, common_steps);
      values = grind (arith, common_steps, value);
      each = soft_more c.loop-i.soft c.loop-i.i _ (search rules) (subst IsSoft (sym same) c.soft_of.ensures.soft) c.loop-i.invariant.each;
    }

pub returns-clause-soft : goal.returns-clause-soft
returns-clause-soft c =
    let most : length c.loop-i.soft ≤ c.loop-i.i = search rules in
    subst (All IsSoft) (take_all c.loop-i.i c.loop-i.soft most) c.loop-i.invariant.each
