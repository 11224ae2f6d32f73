use Rattle.std.proofs.Common.{arith, map}
use Rattle.tetra_diag.specs.lemmas.Depths.{depth_width}
use Rattle.tetra_diag.specs.Ring.{turned}
use Rattle.tetra_diag.proofs.Entries.{all_gathered}
use Rattle.tetra_diag.proofs.gather.fill_block.Goals as goal

pub loop-j-init : goal.loop-j-init
loop-j-init g c = record { size = c.resize.ensures.len; written = λ q inside rank. absurd (omega (arith, rank)) }

pub loop-j-preserved : goal.loop-j-preserved
loop-j-preserved g c = record { size = c.fill_places.ensures.size; written = c.fill_places.ensures.written c.loop-j.invariant.written }

pub returns-clause-value : goal.returns-clause-value
returns-clause-value g c =
    let w = depth_width g.row.N c.requires.depth in
    all_gathered g.row.N (turned c.args.oldest (map g.W.WordRow.values c.args.words.now)) c.loop-j.j c.loop-j.block w.whole w.some c.loop-j.invariant.size (omega arith) c.loop-j.invariant.written
