use Rattle.std.proofs.Common.{◌≡◌, ◌+◌, ◌*◌, ◌%◌, ◌<◌, length, false}
use Rattle.tetra_bits.specs.lemmas.InPlace.{Begins}
use Rattle.tetra_interleave.specs.Steps.{step_entry}
use Rattle.tetra_interleave.proofs.block.bits_by_steps.Given as goal

abbrev pub invariant-loop-turn : goal.invariant-loop-turn
invariant-loop-turn g l =
    record {
      size : length l.all ≡ g.row.K;
      below : l.at < g.row.K;
      at : l.at ≡ (l.fn.from + l.by * (8 * l.turn)) % g.row.K;
      taken : Begins (step_entry false g.row.K l.fn.from l.by l.x) false (8 * l.turn) l.all;
    }
