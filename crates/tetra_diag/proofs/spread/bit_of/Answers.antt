use Rattle.std.proofs.Common.{◌≡◌, ◌∙◌, ◌-◌, ◌<◌, arith, length, map, get_or, ap, sym}
use Rattle.std.proofs.lemmas.List.{length-map}
use Rattle.tetra_diag.specs.Ring.{turned}
use Rattle.tetra_diag.proofs.Entries.{bit_in_part, none_in_part}
use Rattle.tetra_diag.specs.lemmas.Rings.{turned_map_read, length-turned}
use Rattle.tetra_diag.proofs.spread.bit_of.Goals as goal

pub returns-then-j-blocks : goal.returns-then-j-blocks
returns-then-j-blocks g c =
    let bits = g.B.BlockRow.bits in
    let kept = c.args.blocks.now in
    let blocks = map bits kept in
    let j = c.args.j in
    let row = c.index-blocks-place.result in
    let same : length blocks ≡ length kept = length-map kept bits in
    let long : length (turned c.args.oldest blocks) ≡ length kept = length-turned c.args.oldest blocks (omega (arith, c.requires.low)) ∙ same in
    let there : j < length kept = c.if-j-blocks.true in
    let read = turned_map_read bits c.args.oldest (length kept - 1 - j) c.place.result kept row c.requires.low (omega arith) c.place.ensures.value c.index-blocks-place.is (omega (arith, c.place.ensures.within)) in
    let less : j < length (turned c.args.oldest blocks) = omega arith in
    c.bit.ensures ∙ bit_in_part g.row.N (turned c.args.oldest blocks) j c.args.i (bits row) c.requires.bit less
    (read ∙ ap (λ l. get_or (turned c.args.oldest blocks) (l - 1 - j) (bits row)) (sym long))

pub returns-else-j-blocks : goal.returns-else-j-blocks
returns-else-j-blocks g c =
    let kept = c.args.blocks.now in
    let blocks = map g.B.BlockRow.bits kept in
    let same : length blocks ≡ length kept = length-map kept g.B.BlockRow.bits in
    let long : length (turned c.args.oldest blocks) ≡ length blocks = length-turned c.args.oldest blocks (omega (arith, c.requires.low)) in
    none_in_part g.row.N (turned c.args.oldest blocks) c.args.j c.args.i c.requires.bit (omega (arith, c.if-j-blocks.false))
