use Rattle.std.proofs.Common.{refl}
use Rattle.tetra_c.specs.Settings.{settings_of}
use Rattle.tetra_c.proofs.SenderTurns.{begun}
use Rattle.tetra_c.proofs.sender.tetra_sender_init.Goals as goal

pub returns-in-Ok-clause-sender : goal.returns-in-Ok-clause-sender
returns-in-Ok-clause-sender c = λ done. record {
  same = refl;
  turn = refl;
  timeslots = begun (settings_of c.args.settings.now) c.clear_lanes.new.lanes c.clear_lanes.ensures;
}
