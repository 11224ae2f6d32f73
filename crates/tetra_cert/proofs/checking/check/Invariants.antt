use Rattle.std.proofs.Common.{◌≡◌, ◌<◌}
use Rattle.tetra_puncture.specs.Trellis.{state_passed}
use Rattle.tetra_puncture.specs.lemmas.Checking.{CheckedTo}
use Rattle.tetra_cert.proofs.checking.check.Given as goal

abbrev pub invariant-loop-t : goal.invariant-loop-t
invariant-loop-t g l =
    record {
      small : l.path < 16;
      path_is : l.path ≡ state_passed l.message l.t;
      checked : CheckedTo g.P.Plan.plan l.wide l.message l.potentials l.t;
    }
