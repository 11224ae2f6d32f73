use Rattle.std.proofs.Common.{◌≡◌, length, List, ℤ, ◌++◌, ◌∷◌, [], map, map-id, ap, ◌∙◌}
use Rattle.std.proofs.Common.{subst}
use Rattle.tetra_diag.specs.lemmas.Depths.{depth_width}
use Rattle.tetra_diag.specs.Diagonal.{gathered, Fills}
use Rattle.tetra_diag.specs.lemmas.Kept.{gathered_last}
use Rattle.tetra_diag.specs.Ring.{turned}
use Rattle.tetra_bits.specs.Soft.{AllWithin}
use Rattle.tetra_diag.specs.lemmas.Within.{gathered_within}
use Rattle.tetra_diag.proofs.Entries.{filled}
use Rattle.tetra_diag.specs.lemmas.Rings.{turned_put, ring_put, all_put}
use Rattle.tetra_diag.proofs.gather.Gather.push_into.Goals as goal

pub invariant_of-self : goal.invariant_of-self
invariant_of-self g c =
    let HasSize : List ℤ → Type 0 = λ w. length w ≡ 432 in (
      c.self.invariant.0,
      ring_put g.row.N c.self.inside.oldest c.keep_word-self-inside.result c.self.inside.words.items c.keep_word-self-inside.new.words.items c.args.word.now c.self.invariant.1 c.keep_word-self-inside.ensures,
      all_put HasSize g.row.N c.self.inside.oldest c.keep_word-self-inside.result c.self.inside.words.items c.keep_word-self-inside.new.words.items c.args.word.now c.keep_word-self-inside.ensures c.self.invariant.2 c.requires,
    )

pub gather_ring-requires-clause-size : goal.gather_ring-requires-clause-size
gather_ring-requires-clause-size g c =
    let HasSize : List ℤ → Type 0 = λ w. length w ≡ 432 in
    rw c.as_slice.ensures.value
    (all_put HasSize g.row.N c.self.inside.oldest c.keep_word-self-inside.result c.self.inside.words.items c.keep_word-self-inside.new.words.items c.args.word.now c.keep_word-self-inside.ensures c.self.invariant.2 c.requires)

pub returns-clause-stands : goal.returns-clause-stands
returns-clause-stands g c = λ words h.
    turned_put g.row.N c.self.inside.oldest c.keep_word-self-inside.result words c.self.inside.words.items c.keep_word-self-inside.new.words.items c.args.word.now c.self.invariant.1 c.keep_word-self-inside.ensures (c.self.view_is ∙ h)

pub returns-clause-block : goal.returns-clause-block
returns-clause-block g c = λ words h.
    let kept = c.keep_word-self-inside.new.words.items in
    let same = ap (λ xs. gathered g.row.N (turned c.keep_word-self-inside.result xs)) (ap (map (λ s. s)) c.as_slice.ensures.value ∙ map-id kept)
    ∙ ap (gathered g.row.N) (returns-clause-stands g c words h) ∙ gathered_last g.row.N (words ++ c.args.word.now ∷ []) (depth_width g.row.N c.self.invariant.0).some in
    subst (λ answer. Fills answer c.gather_ring.result c.args.block.now c.gather_ring.new.block) same c.gather_ring.ensures.block

pub returns-clause-within : goal.returns-clause-within
returns-clause-within g c = λ top words h all t.
    filled (AllWithin top) (gathered g.row.N (words ++ c.args.word.now ∷ [])) c.gather_ring.result c.args.block.now c.gather_ring.new.block
    (returns-clause-block g c words h) (gathered_within top (words ++ c.args.word.now ∷ []) all g.row.N) t
