use Rattle.std.proofs.Common.{refl}
use Rattle.tetra_c.specs.Settings.{settings_of}
use Rattle.tetra_c.proofs.Turns.{receiver_begins}
use Rattle.tetra_c.proofs.receiver.tetra_receiver_init.Goals as goal

pub returns-in-Ok-clause-stands : goal.returns-in-Ok-clause-stands
returns-in-Ok-clause-stands c = λ done. receiver_begins (settings_of c.args.settings.now) _ refl refl c.clear_lanes.ensures
