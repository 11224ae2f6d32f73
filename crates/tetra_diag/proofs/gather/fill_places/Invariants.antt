use Rattle.std.proofs.Common.{◌≡◌, ◌+◌, ◌*◌, ◌/◌, length, map}
use Rattle.tetra_diag.specs.Diagonal.{AreGathered}
use Rattle.tetra_diag.specs.Ring.{turned}
use Rattle.tetra_diag.proofs.gather.fill_places.Given as goal

abbrev pub invariant-loop-i : goal.invariant-loop-i
invariant-loop-i g l =
    record {
      size : length l.block ≡ 432;
      written : AreGathered g.row.N (turned l.oldest (map g.W.WordRow.values l.words)) (l.j * (432 / g.row.N)) l.initial.block
          → AreGathered g.row.N (turned l.oldest (map g.W.WordRow.values l.words)) (l.j * (432 / g.row.N) + l.i) l.block;
    }
