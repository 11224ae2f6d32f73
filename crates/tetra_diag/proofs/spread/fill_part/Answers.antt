use Rattle.std.proofs.Common.{◌≡◌, ◌∙◌, ◌+◌, ◌*◌, ◌/◌, ℕ, map, false, arith, subst}
use Rattle.std.proofs.lemmas.Nat.{mul-add-lt}
use Rattle.tetra_bits.specs.lemmas.InPlace.{Begins, begins_set}
use Rattle.tetra_diag.specs.Diagonal.{spread_bit}
use Rattle.tetra_diag.specs.lemmas.Depths.{depth_width}
use Rattle.tetra_diag.specs.Ring.{turned}
use Rattle.tetra_diag.proofs.spread.fill_part.Goals as goal

pub set-requires : goal.set-requires
set-requires g c =
    let w = depth_width g.row.N c.requires.depth in
    omega (arith, mul-add-lt c.args.j (432 / g.row.N) c.loop-i.i g.row.N c.requires.part (omega arith), w.whole, c.loop-i.invariant.size)

pub loop-i-preserved : goal.loop-i-preserved
loop-i-preserved g c =
    let n = g.row.N in
    let f = spread_bit n (turned c.args.oldest (map g.B.BlockRow.bits c.args.blocks.now)) in
    let at = c.args.j * (432 / n) + c.loop-i.i in
    let w = depth_width n c.requires.depth in
    let next : at + 1 ≡ c.args.j * (432 / n) + (c.loop-i.i + 1) = omega arith in
    let within = mul-add-lt c.args.j (432 / n) c.loop-i.i n c.requires.part (omega arith) in
    record {
      size = c.set.ensures.len ∙ c.loop-i.invariant.size;
      written = λ front.
          subst (λ (k : ℕ). Begins f false k c.set.new.self) next
          (begins_set f false at c.loop-i.word c.set.new.self c.bit_of.result (c.loop-i.invariant.written front) c.set.ensures.list (omega (arith, within, w.whole, c.loop-i.invariant.size)) c.bit_of.ensures);
    }

pub returns-clause-written : goal.returns-clause-written
returns-clause-written g c = λ front.
    let n = g.row.N in
    let f = spread_bit n (turned c.args.oldest (map g.B.BlockRow.bits c.args.blocks.now)) in
    let end : c.args.j * (432 / n) + c.loop-i.i ≡ (c.args.j + 1) * (432 / n) = omega arith in
    subst (λ (k : ℕ). Begins f false k c.loop-i.word) end (c.loop-i.invariant.written front)
