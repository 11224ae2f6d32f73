use Rattle.std.proofs.Common.{◌≡◌, ◌++◌, ◌∷◌, [], sym, ap, ◌∙◌, subst}
use Rattle.tetra_diag.specs.Diagonal.{Fills, gathered}
use Rattle.tetra_diag.specs.lemmas.Depths.{depth_width}
use Rattle.tetra_diag.specs.lemmas.Kept.{gathered_last}
use Rattle.tetra_c.specs.KeptWords.{KeepsLast}
use Rattle.tetra_c.proofs.RingTests.{ring_says}
use Rattle.tetra_c.proofs.WordRings.{ring_tested, keeps_put}
use Rattle.tetra_c.proofs.kept_words.TetraKeptWords.push_over.Goals as goal

pub returns-clause-stands : goal.returns-clause-stands
returns-clause-stands g c = λ words keeps.
    let n = g.row.N in
    let width = depth_width n c.requires.depth in
    let same : c.settle.new.self ≡ c.args.self.now = c.settle.ensures.kept (ring_tested n words c.args.self.now keeps) in
    let says = ring_says n c.keep.new.self.count c.keep.new.self.oldest width.some c.keep.ensures.ring in
    keeps_put n words c.settle.new.self c.keep.new.self c.args.word.now says.few
    (subst (KeepsLast n words) (sym same) keeps) c.keep.ensures.puts

pub returns-clause-block : goal.returns-clause-block
returns-clause-block g c = λ words keeps.
    let n = g.row.N in
    let width = depth_width n c.requires.depth in
    let stands : KeepsLast n (words ++ c.args.word.now ∷ []) c.keep.new.self = returns-clause-stands g c words keeps in
    let same = ap (gathered n) stands.last ∙ gathered_last n (words ++ c.args.word.now ∷ []) width.some in
    subst (λ answer. Fills answer c.complete.result c.args.block.now c.complete.new.block) same c.complete.ensures.block
