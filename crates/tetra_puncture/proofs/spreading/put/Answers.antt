use Rattle.std.proofs.Common.{◌≡◌, ◌+◌, ℕ, arith, subst, FitsSigned, w16, rules}
use Rattle.std.proofs.lemmas.Int.{to_z-of_z}
use Rattle.tetra_puncture.specs.Spread.{IsSpreadTo}
use Rattle.tetra_puncture.specs.lemmas.Front.{spread_more}
use Rattle.tetra_puncture.proofs.spreading.put.Goals as goal

pub loop-i-preserved : goal.loop-i-preserved
loop-i-preserved g c =
    let p = g.P.Plan.plan in
    let law = g.met.P.Plan in
    let fits : FitsSigned w16 c.get.result = search rules in
    let list = simp to_z-of_z at c.set.ensures.list in
    let next : c.args.first + c.loop-i.i + 1 ≡ c.args.first + (c.loop-i.i + 1) = omega arith in
    let more = spread_more p c.args.soft.now c.loop-i.wide c.set.new.self (c.args.first + c.loop-i.i) c.place-place.result c.get.result
    (law.rise c.requires.sound) (law.lie c.requires.sound) c.loop-i.invariant (omega (arith, law.same_sent, c.requires.last)) c.place-place.ensures
    c.get.ensures.value list c.set.ensures.len in
    subst (λ (n : ℕ). IsSpreadTo p c.args.soft.now n c.set.new.self) next more
