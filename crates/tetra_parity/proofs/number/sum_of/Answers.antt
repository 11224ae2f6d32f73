use Rattle.std.proofs.Common.{◌≡◌, take, arith, refl, ap, ◌∙◌}
use Rattle.tetra_parity.specs.Parity.{sum_of}
use Rattle.tetra_parity.proofs.Numbers.{no_sum, sum_more}
use Rattle.tetra_parity.proofs.number.sum_of.Goals as goal

pub loop-i-init : goal.loop-i-init
loop-i-init c = no_sum

pub loop-i-preserved : goal.loop-i-preserved
loop-i-preserved c = sum_more c.args.bits.now c.loop-i.i c.loop-i.sum c.get-sum.result _ (omega arith) c.loop-i.invariant c.get-sum.ensures refl

pub returns : goal.returns
returns c =
    let all : c.loop-i.i ≡ c.args.size = omega arith in
    c.loop-i.invariant ∙ ap (λ n. sum_of (take n c.args.bits.now)) all
