use Rattle.std.proofs.Common.{◌≡◌, ◌+◌, ◌*◌, ◌%◌, ◌<◌, length, pos}
use Rattle.tetra_bits.specs.lemmas.InPlace.{Begins}
use Rattle.tetra_interleave.specs.Steps.{step_entry}
use Rattle.tetra_interleave.proofs.block.values_by_steps.Given as goal

abbrev pub invariant-loop-turn : goal.invariant-loop-turn
invariant-loop-turn g l =
    record {
      size : length l.all ≡ g.row.K;
      below : l.at < g.row.K;
      at : l.at ≡ (l.fn.from + l.by * (8 * l.turn)) % g.row.K;
      taken : Begins (step_entry (pos 0) g.row.K l.fn.from l.by l.x) (pos 0) (8 * l.turn) l.all;
    }
