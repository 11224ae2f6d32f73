use Rattle.std.proofs.Common.{◌≡◌, ◌∙◌, ◌+◌, ◌*◌, ◌/◌, ℕ, map, arith, subst, FitsSigned, w16, rules}
use Rattle.std.proofs.lemmas.Int.{to_z-of_z}
use Rattle.tetra_diag.specs.Diagonal.{AreGathered}
use Rattle.tetra_diag.specs.lemmas.Depths.{depth_width}
use Rattle.tetra_diag.specs.Ring.{turned}
use Rattle.tetra_diag.proofs.Entries.{gathered_more}
use Rattle.tetra_diag.proofs.gather.fill_places.Goals as goal

pub loop-i-preserved : goal.loop-i-preserved
loop-i-preserved g c =
    let n = g.row.N in
    let w = depth_width n c.requires.depth in
    let fits : FitsSigned w16 c.value_of.result = search rules in
    let list = simp to_z-of_z at c.set.ensures.list in
    record {
      size = c.set.ensures.len ∙ c.loop-i.invariant.size;
      written = λ front.
          gathered_more n (turned c.args.oldest (map g.W.WordRow.values c.args.words.now)) c.args.j c.loop-i.i c.loop-i.block c.set.new.self c.value_of.result w.whole c.requires.word (omega arith) c.loop-i.invariant.size
          (c.loop-i.invariant.written front) list c.value_of.ensures.value;
    }

pub returns-clause-written : goal.returns-clause-written
returns-clause-written g c = λ front.
    let n = g.row.N in
    let end : c.args.j * (432 / n) + c.loop-i.i ≡ (c.args.j + 1) * (432 / n) = omega arith in
    subst (λ (k : ℕ). AreGathered n (turned c.args.oldest (map g.W.WordRow.values c.args.words.now)) k c.loop-i.block) end (c.loop-i.invariant.written front)
