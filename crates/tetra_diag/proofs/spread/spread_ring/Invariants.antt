use Rattle.std.proofs.Common.{◌≡◌, ◌*◌, ◌/◌, length, map, false}
use Rattle.tetra_bits.specs.lemmas.InPlace.{Begins}
use Rattle.tetra_diag.specs.Diagonal.{spread_bit}
use Rattle.tetra_diag.specs.Ring.{turned}
use Rattle.tetra_diag.proofs.spread.spread_ring.Given as goal

abbrev pub invariant-loop-j : goal.invariant-loop-j
invariant-loop-j g l =
    record {
      size : length l.word ≡ 432;
      written : Begins (spread_bit g.row.N (turned l.oldest (map g.B.BlockRow.bits l.blocks))) false (l.j * (432 / g.row.N)) l.word;
    }
