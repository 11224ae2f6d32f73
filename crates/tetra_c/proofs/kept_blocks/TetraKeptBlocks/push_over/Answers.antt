use Rattle.std.proofs.Common.{◌≡◌, ◌++◌, ◌∷◌, [], sym, ap, ◌∙◌, subst}
use Rattle.tetra_diag.specs.Diagonal.{spread_word}
use Rattle.tetra_diag.specs.lemmas.Depths.{depth_width}
use Rattle.tetra_diag.specs.lemmas.Kept.{spread_word_last}
use Rattle.tetra_c.specs.KeptBlocks.{KeepsLast}
use Rattle.tetra_c.proofs.RingTests.{ring_says}
use Rattle.tetra_c.proofs.BlockRings.{ring_tested, keeps_put}
use Rattle.tetra_c.proofs.kept_blocks.TetraKeptBlocks.push_over.Goals as goal

pub returns-clause-stands : goal.returns-clause-stands
returns-clause-stands g c = λ blocks keeps.
    let n = g.row.N in
    let width = depth_width n c.requires.depth in
    let same : c.settle.new.self ≡ c.args.self.now = c.settle.ensures.kept (ring_tested n blocks c.args.self.now keeps) in
    let says = ring_says n c.keep.new.self.count c.keep.new.self.oldest width.some c.keep.ensures.ring in
    keeps_put n blocks c.settle.new.self c.keep.new.self c.args.block.now says.few
    (subst (KeepsLast n blocks) (sym same) keeps) c.keep.ensures.puts

pub returns-clause-word : goal.returns-clause-word
returns-clause-word g c = λ blocks keeps.
    let n = g.row.N in
    let stands : KeepsLast n (blocks ++ c.args.block.now ∷ []) c.keep.new.self = returns-clause-stands g c blocks keeps in
    c.fill_word.ensures.word ∙ ap (spread_word n) stands.last ∙ spread_word_last n (blocks ++ c.args.block.now ∷ []) c.requires.depth
