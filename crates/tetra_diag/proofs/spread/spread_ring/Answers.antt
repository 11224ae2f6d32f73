use Rattle.std.proofs.Common.{◌≡◌, ◌∙◌, ◌*◌, ◌/◌, ℕ, map, false, arith, subst, ap, mul_comm}
use Rattle.tetra_bits.specs.lemmas.InPlace.{Begins, begins_none, begins_all}
use Rattle.tetra_diag.specs.Diagonal.{spread_bit, spread_word}
use Rattle.tetra_diag.specs.lemmas.Depths.{depth_width}
use Rattle.tetra_diag.specs.Ring.{turned}
use Rattle.tetra_diag.proofs.spread.spread_ring.Goals as goal

pub loop-j-init : goal.loop-j-init
loop-j-init g c =
    let f = spread_bit g.row.N (turned c.args.oldest (map g.B.BlockRow.bits c.args.blocks.now)) in
    let none : 0 ≡ 0 * (432 / g.row.N) = omega arith in
    record { size = c.resize.ensures.len; written = subst (λ (k : ℕ). Begins f false k c.resize.new.self) none (begins_none f false c.resize.new.self) }

pub loop-j-preserved : goal.loop-j-preserved
loop-j-preserved g c = record { size = c.fill_part.ensures.size; written = c.fill_part.ensures.written c.loop-j.invariant.written }

pub returns-clause-word : goal.returns-clause-word
unfolding spread_word
returns-clause-word g c =
    let n = g.row.N in
    let w = depth_width n c.requires.depth in
    let end : c.loop-j.j ≡ n = omega arith in
    let whole : c.loop-j.j * (432 / n) ≡ 432 = ap (λ k. k * (432 / n)) end ∙ mul_comm n (432 / n) ∙ w.whole in
    begins_all (spread_bit n (turned c.args.oldest (map g.B.BlockRow.bits c.args.blocks.now))) false 432 (c.loop-j.j * (432 / n)) c.loop-j.word c.loop-j.invariant.size c.loop-j.invariant.written (omega (arith, whole))
