use Rattle.std.proofs.Common.{w16, ◌≡◌, ◌-◌, arith, ap, ◌∙◌}
use Rattle.std.specs.Int.{bit_at, trailing_zeros}
use Rattle.tetra_rm.proofs.WholeWalk.{lowest_one}
use Rattle.tetra_rm.proofs.walk.bit_of_step.Goals as goal

pub overflow_sub-result : goal.overflow_sub-result
overflow_sub-result c = let low = lowest_one c.args.step c.requires.0 c.requires.1 in omega (arith, low.0)

pub returns-clause-within : goal.returns-clause-within
returns-clause-within c = let low = lowest_one c.args.step c.requires.0 c.requires.1 in (omega (arith, low.0), omega (arith, low.0))

pub returns-clause-place : goal.returns-clause-place
returns-clause-place c =
    let low = lowest_one c.args.step c.requires.0 c.requires.1 in
    let back : 14 - (14 - trailing_zeros w16 c.args.step) ≡ trailing_zeros w16 c.args.step = omega (arith, low.0) in
    ap (bit_at c.args.step) back ∙ low.1

pub returns-clause-behind : goal.returns-clause-behind
returns-clause-behind c = λ i h.
    let low = lowest_one c.args.step c.requires.0 c.requires.1 in
    low.2 i (omega (arith, low.0))
