use Rattle.std.proofs.Common.{◌≡◌, ◌+◌, length, Bool, false, List}
use Rattle.tetra_bits.specs.lemmas.InPlace.{Begins}
use Rattle.tetra_puncture.specs.Outputs.{AreOutputs}
use Rattle.tetra_puncture.specs.Plan.{sent_bit}
use Rattle.tetra_puncture.proofs.sending.write.Given as goal

abbrev pub invariant-loop-i : goal.invariant-loop-i
invariant-loop-i g l =
    let p = g.P.Plan.plan in
    record {
      size : length l.sent ≡ g.P.Plan.SENT;
      written : (m : List Bool) → AreOutputs p.taps p.outs m l.outputs → Begins (sent_bit p m) false l.first l.initial.sent
          → Begins (sent_bit p m) false (l.first + l.i) l.sent;
    }
