use Rattle.std.proofs.Common.{◌≡◌, ◌+◌, suc, arith, refl, ap, ◌∙◌}
use Rattle.tetra_bits.specs.Digits.{digits}
use Rattle.tetra_rm.specs.Code.{rows_sum}
use Rattle.tetra_rm.proofs.words.sum_of_rows.Goals as goal

pub loop-r-init : goal.loop-r-init
unfolding rows_sum
loop-r-init c = refl

pub loop-r-preserved : goal.loop-r-preserved
unfolding rows_sum
loop-r-preserved c =
    let next : c.loop-r.r + 1 ≡ suc c.loop-r.r = omega arith in
    rw (next, c.loop-r.invariant, c.row_part-sum.ensures) refl

pub returns : goal.returns
returns c =
    let end : c.loop-r.r ≡ 14 = omega arith in
    c.loop-r.invariant ∙ ap (rows_sum c.args.rows.now.0 (digits 14 c.args.message)) end
