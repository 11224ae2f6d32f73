use Rattle.std.proofs.Common.{◌≡◌, ◌+◌, ◌*◌, ◌%◌, arith, ap, subst}
use Rattle.tetra_rm.specs.Search.{IsLeastBelow, key_by_tables}
use Rattle.tetra_rm.proofs.Least.{least_of_same, least_turned}
use Rattle.tetra_rm.proofs.searching.least_of_all.Goals as goal

pub loop-step-init : goal.loop-step-init
loop-step-init c =
    least_of_same
    (λ k. key_by_tables c.args.first.now c.args.second.now c.args.front.now c.args.middle.now c.args.last.now ((c.likeliest-start.result * 512 + k) % 16384))
    (λ k. key_by_tables c.args.first.now c.args.second.now c.args.front.now c.args.middle.now c.args.last.now (c.likeliest-start.result * 512 + k))
    512 c.least_at-least.result
    (λ k h. let place : (c.likeliest-start.result * 512 + k) % 16384 ≡ c.likeliest-start.result * 512 + k = omega (arith, c.likeliest-start.ensures) in
    ap (key_by_tables c.args.first.now c.args.second.now c.args.front.now c.args.middle.now c.args.last.now) place)
    c.least_at-least.ensures

pub loop-step-preserved : goal.loop-step-preserved
loop-step-preserved c =
    let next : c.loop-step.step * 512 + 512 ≡ (c.loop-step.step + 1) * 512 = omega arith in
    subst (λ n. IsLeastBelow (λ k. key_by_tables c.args.first.now c.args.second.now c.args.front.now c.args.middle.now c.args.last.now ((c.likeliest-start.result * 512 + k) % 16384)) n c.lesser_at-least.result) next
    (c.lesser_at-least.ensures
    (λ k. key_by_tables c.args.first.now c.args.second.now c.args.front.now c.args.middle.now c.args.last.now ((c.likeliest-start.result * 512 + k) % 16384))
    (c.loop-step.step * 512)
    (λ v h. let place : (c.likeliest-start.result * 512 + (c.loop-step.step * 512 + v)) % 16384 ≡ (c.likeliest-start.result + c.loop-step.step) % 32 * 512 + v = omega (arith, c.likeliest-start.ensures) in
    ap (key_by_tables c.args.first.now c.args.second.now c.args.front.now c.args.middle.now c.args.last.now) place)
    c.loop-step.invariant)

pub returns : goal.returns
returns c =
    let end : c.loop-step.step * 512 ≡ 16384 = omega arith in
    least_turned (key_by_tables c.args.first.now c.args.second.now c.args.front.now c.args.middle.now c.args.last.now)
    (c.likeliest-start.result * 512) c.loop-step.least (omega (arith, c.likeliest-start.ensures))
    (subst (λ n. IsLeastBelow (λ k. key_by_tables c.args.first.now c.args.second.now c.args.front.now c.args.middle.now c.args.last.now ((c.likeliest-start.result * 512 + k) % 16384)) n c.loop-step.least) end
    c.loop-step.invariant)
