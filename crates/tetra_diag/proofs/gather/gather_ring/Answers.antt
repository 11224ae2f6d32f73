use Rattle.std.proofs.Common.{◌≡◌, arith, length, map}
use Rattle.std.proofs.lemmas.List.{length-map}
use Rattle.tetra_diag.specs.Ring.{turned}
use Rattle.tetra_diag.proofs.Entries.{gathered_none, gathered_some}
use Rattle.tetra_diag.specs.lemmas.Rings.{length-turned}
use Rattle.tetra_diag.proofs.gather.gather_ring.Goals as goal

pub returns-then-words-clause-block : goal.returns-then-words-clause-block
returns-then-words-clause-block g c =
    let words = map g.W.WordRow.values c.args.words.now in
    let same : length words ≡ length c.args.words.now = length-map c.args.words.now g.W.WordRow.values in
    let long : length (turned c.args.oldest words) ≡ length words = length-turned c.args.oldest words (omega (arith, c.requires.low)) in
    gathered_none g.row.N (turned c.args.oldest words) c.args.block.now (omega arith)

pub returns-clause-block : goal.returns-clause-block
returns-clause-block g c =
    let words = map g.W.WordRow.values c.args.words.now in
    let same : length words ≡ length c.args.words.now = length-map c.args.words.now g.W.WordRow.values in
    let long : length (turned c.args.oldest words) ≡ length words = length-turned c.args.oldest words (omega (arith, c.requires.low)) in
    gathered_some g.row.N (turned c.args.oldest words) c.args.block.now c.fill_block.new.block (omega arith) c.fill_block.ensures.value
