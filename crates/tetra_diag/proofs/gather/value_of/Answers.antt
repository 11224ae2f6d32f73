use Rattle.std.proofs.Common.{◌∙◌, ◌≡◌, FitsSigned, w16, rules, arith, length, map}
use Rattle.std.proofs.lemmas.Int.{to_z-of_z}
use Rattle.std.proofs.lemmas.List.{length-map}
use Rattle.tetra_diag.specs.Ring.{turned}
use Rattle.tetra_diag.proofs.Entries.{value_in_word}
use Rattle.tetra_diag.specs.lemmas.Rings.{turned_map_read, length-turned}
use Rattle.tetra_diag.proofs.gather.value_of.Goals as goal

pub returns-clause-value : goal.returns-clause-value
returns-clause-value g c =
    let n = g.row.N in
    let values = g.W.WordRow.values in
    let words = map values c.args.words.now in
    let row = c.index-words-place.result in
    let fits : FitsSigned w16 c.value.result = search rules in
    let same : length words ≡ length c.args.words.now = length-map c.args.words.now values in
    let long : length (turned c.args.oldest words) ≡ n = length-turned c.args.oldest words (omega (arith, c.requires.low)) ∙ same ∙ c.requires.full in
    let read = turned_map_read values c.args.oldest c.args.j c.place.result c.args.words.now row c.requires.low (omega (arith, c.requires.full)) c.place.ensures.value c.index-words-place.is
    (omega (arith, c.place.ensures.within)) in
    rw to_z-of_z (c.value.ensures.value ∙ value_in_word n (turned c.args.oldest words) c.args.j c.args.i (values row) c.requires.word long read)
