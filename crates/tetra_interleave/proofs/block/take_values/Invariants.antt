use Rattle.std.proofs.Common.{◌≡◌, ◌+◌, ◌*◌, ◌%◌, ℕ, ℤ, List, length, pos}
use Rattle.tetra_bits.specs.lemmas.InPlace.{Begins}
use Rattle.tetra_interleave.specs.Steps.{IsTwice, step_entry}
use Rattle.tetra_interleave.proofs.block.take_values.Given as goal

abbrev pub invariant-loop-i : goal.invariant-loop-i
invariant-loop-i g l =
    record {
      size : length l.all ≡ g.row.K;
      taken : (x : List ℤ) (from : ℕ) → IsTwice (pos 0) g.row.K g.row.K x l.twice → l.at ≡ (from + l.by * l.first) % g.row.K
          → Begins (step_entry (pos 0) g.row.K from l.by x) (pos 0) l.first l.initial.all → Begins (step_entry (pos 0) g.row.K from l.by x) (pos 0) (l.first + l.i) l.all;
    }
