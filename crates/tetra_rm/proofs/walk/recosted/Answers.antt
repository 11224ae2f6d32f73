use Rattle.std.proofs.Common.{FitsSigned, w16, ◌≡◌, false, not, get_or, arith, refl, ap, sym, ◌∙◌}
use Rattle.std.proofs.lemmas.Int.{to_z-of_z, ints}
use Rattle.tetra_bits.specs.Cost.{cost, cost_at}
use Rattle.tetra_bits.specs.Soft.{value_at}
use Rattle.tetra_bits.specs.Sums.{add2}
use Rattle.tetra_rm.proofs.Turned.{add_one_bit, add_no_bit}
use Rattle.tetra_rm.proofs.walk.recosted.Goals as goal

pub overflow_sub-result : goal.overflow_sub-result
unfolding cost_at
overflow_sub-result c =
    let fits : FitsSigned w16 c.get.result = omega (arith, ints, c.get.ensures.soft) in
    let value = simp to_z-of_z at c.cost.ensures.value in
    let here : c.cost.result ≡ cost (value_at c.args.soft.now c.args.k) (get_or c.args.word.now c.args.k false) = cc in
    omega (arith, c.requires.there)

pub returns-then-turn : goal.returns-then-turn
unfolding cost_at
returns-then-turn c =
    let fits : FitsSigned w16 c.get.result = omega (arith, ints, c.get.ensures.soft) in
    let again : FitsSigned w16 c.get-then-turn-2.result = omega (arith, ints, c.get-then-turn-2.ensures.soft) in
    let value = simp to_z-of_z at c.cost.ensures.value in
    let other = simp to_z-of_z at c.cost-then-turn.ensures.value in
    let here : c.cost.result ≡ cost (value_at c.args.soft.now c.args.k) (get_or c.args.word.now c.args.k false) = cc in
    let turned : c.cost-then-turn.result ≡ cost (value_at c.args.soft.now c.args.k) (not (get_or c.args.word.now c.args.k false)) = cc in
    let bit : add2 (get_or c.args.word.now c.args.k false) c.args.turn ≡ not (get_or c.args.word.now c.args.k false) =
    ap (add2 (get_or c.args.word.now c.args.k false)) c.if-turn.true ∙ sym (add_one_bit (get_or c.args.word.now c.args.k false)) in
    rw bit (omega (arith, c.requires.there))

pub returns-else-turn : goal.returns-else-turn
unfolding cost_at
returns-else-turn c =
    let bit : add2 (get_or c.args.word.now c.args.k false) c.args.turn ≡ get_or c.args.word.now c.args.k false =
    ap (add2 (get_or c.args.word.now c.args.k false)) c.if-turn.false ∙ sym (add_no_bit (get_or c.args.word.now c.args.k false)) in
    rw bit refl
