use Rattle.std.proofs.Common.{◌≡◌, ℕ, pos, arith, subst}
use Rattle.tetra_interleave.specs.Steps.{IsTwice}
use Rattle.tetra_interleave.proofs.BySteps.{soft_twice}
use Rattle.tetra_interleave.proofs.block.write_values_twice.Goals as goal

pub returns-clause-soft : goal.returns-clause-soft
returns-clause-soft g c =
    let all : c.loop-i.i ≡ g.row.K = omega arith in
    let twice = subst (λ (n : ℕ). IsTwice (pos 0) g.row.K n c.args.x.now c.loop-i.twice) all c.loop-i.invariant.twice in
    soft_twice g.row.K c.args.x.now c.loop-i.twice twice (λ i h. c.loop-i.invariant.soft i (omega arith))
