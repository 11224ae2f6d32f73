use Rattle.std.proofs.Common.{refl}
use Rattle.tetra_session.specs.Sent.{SpreadLaneStands, block_sent}
use Rattle.tetra_session.specs.declared.spreading.SpreadLane.TheVariants.{Still}
use Rattle.tetra_session.specs.lemmas.FourSteps.{four_none}
use Rattle.tetra_session.proofs.sender.Sender.new.Goals as goal

pub returns : goal.returns
returns c = record {
  same = refl;
  turn = refl;
  timeslots = four_none SpreadLaneStands block_sent Still c.args.settings.now _ _ _ _ c.new.ensures c.new-2.ensures c.new-3.ensures c.new-4.ensures;
}
