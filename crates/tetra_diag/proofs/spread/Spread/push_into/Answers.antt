use Rattle.std.proofs.Common.{◌≡◌, length, List, Bool, ◌++◌, ◌∷◌, [], map, map-id, ap, ◌∙◌}
use Rattle.tetra_diag.specs.Diagonal.{spread_word}
use Rattle.tetra_diag.specs.lemmas.Kept.{spread_word_last}
use Rattle.tetra_diag.specs.Ring.{turned}
use Rattle.tetra_diag.specs.lemmas.Rings.{turned_put, ring_put, all_put}
use Rattle.tetra_diag.proofs.spread.Spread.push_into.Goals as goal

pub invariant_of-self : goal.invariant_of-self
invariant_of-self g c =
    let HasSize : List Bool → Type 0 = λ w. length w ≡ 432 in (
      c.self.invariant.0,
      ring_put g.row.N c.self.inside.oldest c.keep_block-self-inside.result c.self.inside.blocks.items c.keep_block-self-inside.new.blocks.items c.args.block.now c.self.invariant.1 c.keep_block-self-inside.ensures,
      all_put HasSize g.row.N c.self.inside.oldest c.keep_block-self-inside.result c.self.inside.blocks.items c.keep_block-self-inside.new.blocks.items c.args.block.now c.keep_block-self-inside.ensures c.self.invariant.2 c.requires,
    )

pub spread_ring-requires-clause-size : goal.spread_ring-requires-clause-size
spread_ring-requires-clause-size g c =
    let HasSize : List Bool → Type 0 = λ w. length w ≡ 432 in
    rw c.as_slice.ensures.value
    (all_put HasSize g.row.N c.self.inside.oldest c.keep_block-self-inside.result c.self.inside.blocks.items c.keep_block-self-inside.new.blocks.items c.args.block.now c.keep_block-self-inside.ensures c.self.invariant.2 c.requires)

pub returns-clause-stands : goal.returns-clause-stands
returns-clause-stands g c = λ blocks h.
    turned_put g.row.N c.self.inside.oldest c.keep_block-self-inside.result blocks c.self.inside.blocks.items c.keep_block-self-inside.new.blocks.items c.args.block.now c.self.invariant.1 c.keep_block-self-inside.ensures (c.self.view_is ∙ h)

pub returns-clause-word : goal.returns-clause-word
returns-clause-word g c = λ blocks h.
    let kept = c.keep_block-self-inside.new.blocks.items in
    c.spread_ring.ensures.word ∙ ap (λ xs. spread_word g.row.N (turned c.keep_block-self-inside.result xs)) (ap (map (λ s. s)) c.as_slice.ensures.value ∙ map-id kept)
    ∙ ap (spread_word g.row.N) (returns-clause-stands g c blocks h) ∙ spread_word_last g.row.N (blocks ++ c.args.block.now ∷ []) c.self.invariant.0
