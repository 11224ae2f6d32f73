use Rattle.std.proofs.Common.{refl}
use Rattle.tetra_scramble.specs.Key.{key_of}
use Rattle.tetra_session.specs.Heard.{GatherLaneStands, word_heard}
use Rattle.tetra_session.specs.declared.gathering.GatherLane.TheVariants.{Still}
use Rattle.tetra_session.specs.lemmas.FourSteps.{four_none}
use Rattle.tetra_session.proofs.receiver.Receiver.new.Goals as goal

pub returns : goal.returns
returns c = record {
  same = refl;
  turn = refl;
  timeslots = four_none GatherLaneStands (word_heard c.args.settings.now.dir (key_of c.args.settings.now.colour)) Still c.args.settings.now
      _ _ _ _ c.new.ensures c.new-2.ensures c.new-3.ensures c.new-4.ensures;
}
