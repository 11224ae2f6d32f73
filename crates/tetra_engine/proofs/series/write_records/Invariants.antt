use Rattle.std.proofs.Common.{◌≤◌}
use Rattle.std.specs.Io.KnownBytes.{Appends}
use Rattle.tetra_gen.specs.Made.{MakerStands}
use Rattle.tetra_engine.specs.Generating.{generating}
use Rattle.tetra_engine.specs.Series.{first_outputs}
use Rattle.tetra_engine.proofs.series.write_records.Given as goal

-- the records so far were made and written
abbrev pub invariant-loop-slot : goal.invariant-loop-slot
invariant-loop-slot g l = record {
  maker : MakerStands l.settings l.slot l.maker;
  wrote : Appends (g.K.Sink.taken l.fn.sink) (g.K.Sink.taken l.sink) (first_outputs (generating l.settings) l.slot);
  later : g.K.Sink.faults l.fn.sink ≤ g.K.Sink.faults l.sink;
}
