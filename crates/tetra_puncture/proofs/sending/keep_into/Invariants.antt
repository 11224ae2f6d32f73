use Rattle.std.proofs.Common.{◌≡◌, ◌*◌, length, false}
use Rattle.tetra_bits.specs.lemmas.InPlace.{Begins}
use Rattle.tetra_puncture.specs.Plan.{sent_bit}
use Rattle.tetra_puncture.proofs.sending.keep_into.Given as goal

abbrev pub invariant-loop-turn : goal.invariant-loop-turn
invariant-loop-turn g l =
    record {
      size : length l.sent ≡ g.P.Plan.SENT;
      written : Begins (sent_bit g.P.Plan.plan l.message) false (12 * l.turn) l.sent;
    }
