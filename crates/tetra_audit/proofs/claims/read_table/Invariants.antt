use Rattle.std.proofs.Common.{◌≡◌, [], length}
use Rattle.tetra_bits.specs.lemmas.InPlace.{Begins}
use Rattle.tetra_audit.specs.Claims.{claimed_row}
use Rattle.tetra_audit.proofs.claims.read_table.Given as goal

abbrev pub invariant-loop-t : goal.invariant-loop-t
invariant-loop-t l = record { size : length l.table ≡ l.rows; written : Begins (claimed_row l.bytes) [] l.t l.table }
